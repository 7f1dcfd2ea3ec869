use Rattle.cells.specs.Validity.{valid_place}
use Rattle.cells.specs.Fold.{all_below}
use mathlib.Core.Path.{◌≡◌}
use Rattle.validity.proofs.valid_waits.Given as goal

abbrev pub invariant-loop-p : goal.invariant-loop-p
invariant-loop-p l = l.ok ≡ all_below (valid_place l.t) l.p
