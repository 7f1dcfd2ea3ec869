use Rattle.walk.proofs.Laws.{alerted_at}
use Rattle.walk.proofs.alert_of.Goals as goal

pub returns : goal.returns
returns c = let a = c.args in let w = c.header_at-w.ensures in alerted_at a.t.now a.p c.told-t c.requires w.owner w.alert c.count_at-n.ensures c.by_alert.ensures
