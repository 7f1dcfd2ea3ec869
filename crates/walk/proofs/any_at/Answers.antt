use Rattle.walk.proofs.Laws.{any_alerted, any_taken}
use Rattle.walk.proofs.any_at.Goals as goal

pub returns-in_default : goal.returns-in_default
returns-in_default c = let a = c.args in any_alerted a.t.now a.p c.told-t c.requires c.header_at-w.ensures.owner c.list_of-list.ensures c.in_default.ensures c.alert_of.ensures

pub returns : goal.returns
returns c = let a = c.args in let e = c.in-Some.ensures in any_taken a.t.now a.p c.told-t c.requires c.header_at-w.ensures.owner c.list_of-list.ensures e.0 e.1 c.take_one.ensures
