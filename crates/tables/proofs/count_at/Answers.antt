use Rattle.tables.proofs.Laws.{count_is, count_none}
use Rattle.tables.proofs.count_at.Goals as goal

pub returns-then-n : goal.returns-then-n
returns-then-n c = count_is c.args.t.now c.args.p c.wait_cell-n.ensures c.if-n.true

pub returns : goal.returns
returns c = count_none c.args.t.now c.args.p c.wait_cell-n.ensures c.if-n.false
