use borrow.Author.Rules.{rules}
use Rattle.model.specs.Calls.{signal, kill}
use Rattle.ntsync_fronts.proofs.kill_owner_woken.Goals as goal

pub filled-requires-clause-answers : goal.filled-requires-clause-answers
filled-requires-clause-answers c = (signal (kill c.args.owner) c.args.handle, λ t w r u v q. search rules)

pub returns : goal.returns
returns c = (c.filled.ensures.filled (signal (kill c.args.owner) c.args.handle) (λ t w r u v q. search rules), c.filled.ensures.place)
