use Rattle.tables.proofs.Laws.{free_zero}
use Rattle.tables.proofs.free_zero.Goals as goal

pub returns : goal.returns
returns c = free_zero c.args.t.now c.args.p c.bits_of.ensures
