use borrow.Author.Rules.{rules}
use Rattle.model.specs.Calls.{expire}
use Rattle.ntsync_fronts.proofs.expire_woken.Goals as goal

pub filled-requires-clause-answers : goal.filled-requires-clause-answers
filled-requires-clause-answers c = (expire c.args.clock c.args.time, λ t w r u v q. search rules)

pub returns : goal.returns
returns c = (c.filled.ensures.filled (expire c.args.clock c.args.time) (λ t w r u v q. search rules), c.filled.ensures.place)
