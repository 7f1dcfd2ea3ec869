use Rattle.walk.proofs.Laws.{taken_at}
use Rattle.tables.proofs.Laws.{count_le}
use lib.Seq.{length-take-le}
use mathlib.Core.Path.{sym}
use native.Mathlib.Omega.{arith}
use Rattle.walk.proofs.all_at.Goals as goal

pub slice_bounds-list-end : goal.slice_bounds-list-end
slice_bounds-list-end c = omega (arith, count_le c.args.t.now c.args.p, c.count_at-n.ensures, c.copy_list-list.ensures.0)

pub slice_bounds-take_list-end : goal.slice_bounds-take_list-end
slice_bounds-take_list-end c = sym (length-take-le c.count_at-n.result c.copy_list-list.result (omega (arith, count_le c.args.t.now c.args.p, c.count_at-n.ensures, c.copy_list-list.ensures.0)))

pub returns : goal.returns
returns c = let a = c.args in taken_at a.t.now a.p c.copy_list-list.result c.header_at-w.ensures.owner c.count_at-n.ensures c.copy_list-list.ensures.1 c.take_list.ensures
