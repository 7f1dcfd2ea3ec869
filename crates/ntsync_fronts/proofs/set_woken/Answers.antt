use borrow.Author.Rules.{rules}
use Rattle.model.specs.Calls.{signal, set_event}
use Rattle.ntsync_fronts.proofs.set_woken.Goals as goal

pub filled-requires-clause-answers : goal.filled-requires-clause-answers
filled-requires-clause-answers c = (signal set_event c.args.handle, λ t w r u v q. search rules)

pub returns : goal.returns
returns c = (c.filled.ensures.filled (signal set_event c.args.handle) (λ t w r u v q. search rules), c.filled.ensures.place)
