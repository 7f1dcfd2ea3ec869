use Rattle.cells.specs.Calls.{busy_at}
use Rattle.cells.specs.Fold.{some_below}
use mathlib.Core.Path.{◌≡◌}
use Rattle.calls.proofs.busy.Given as goal

abbrev pub invariant-loop-p : goal.invariant-loop-p
invariant-loop-p l = l.found ≡ some_below (busy_at l.t l.h) l.p
