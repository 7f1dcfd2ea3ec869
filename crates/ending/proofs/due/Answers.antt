use Rattle.ending.proofs.Laws.{due_is}
use Rattle.ending.proofs.due.Goals as goal

pub returns : goal.returns
returns c = let a = c.args in let w = c.header_at-w.ensures in due_is a.t.now a.clock a.time a.p w.ticket w.clock w.timeout c.time_up-up.ensures
