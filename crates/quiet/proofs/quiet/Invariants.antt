use mathlib.Core.Path.{◌≡◌}
use mathlib.Core.Bool.{false}
use Rattle.cells.specs.Fold.{some_below}
use Rattle.cells.specs.Attempt.{ready_at}
use Rattle.quiet.proofs.quiet.Given as goal

abbrev pub invariant-loop-p : goal.invariant-loop-p
invariant-loop-p l = some_below (ready_at l.t) l.p ≡ false
