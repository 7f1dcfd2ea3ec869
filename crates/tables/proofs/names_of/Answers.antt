use Rattle.tables.proofs.Laws.{count_le, names_part}
use native.Mathlib.Omega.{arith}
use Rattle.tables.proofs.names_of.Goals as goal

pub overflow_add-end : goal.overflow_add-end
overflow_add-end c = omega (arith, count_le c.args.t.now c.args.p)

pub overflow_add-end-2 : goal.overflow_add-end-2
overflow_add-end-2 c = omega (arith, count_le c.args.t.now c.args.p)

pub slice_bounds-result-end : goal.slice_bounds-result-end
slice_bounds-result-end c = omega (arith, count_le c.args.t.now c.args.p)

pub returns : goal.returns
returns c = names_part c.args.t.now c.args.p c.count_at-n.ensures
