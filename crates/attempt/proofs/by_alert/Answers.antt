use Rattle.attempt.proofs.Laws.{alert_took, alert_missed}
use Rattle.attempt.proofs.by_alert.Goals as goal

pub returns-then-here : goal.returns-then-here
returns-then-here c = let a = c.args in alert_took a.t.now a.asking a.alert a.n c.signaled-here.ensures c.if-here.true c.take_one.ensures

pub returns : goal.returns
returns c = let a = c.args in alert_missed a.t.now a.asking a.alert a.n c.signaled-here.ensures c.if-here.false
