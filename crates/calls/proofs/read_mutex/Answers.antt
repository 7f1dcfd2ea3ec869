use Rattle.refine.proofs.Validity.{small_of}
use Rattle.kinds.specs.Values.{cells_of}
use native.Mathlib.Omega.{arith}
use Rattle.calls.proofs.read_mutex.Goals as goal

pub overflow_cast-result : goal.overflow_cast-result
overflow_cast-result c = let a = c.args in omega (arith, small_of a.t.cells.now a.h (cells_of c.named-o.result) c.named-o.ensures a.t.valid)

pub overflow_cast-result-2 : goal.overflow_cast-result-2
overflow_cast-result-2 c = let a = c.args in omega (arith, small_of a.t.cells.now a.h (cells_of c.named-o.result) c.named-o.ensures a.t.valid)
