use Rattle.waits.proofs.Laws.{bad_is}
use Rattle.waits.proofs.bad_wait.Goals as goal

pub returns : goal.returns
returns c = let a = c.args in let w = a.terms in bad_is a.t.now w.mode a.list.now w.owner w.clock a.pad w.alert c.proper_alert-alert.ensures c.proper_list-proper.ensures
