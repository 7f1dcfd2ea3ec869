use Rattle.cells.specs.Validity.{valid_fields}
use Rattle.cells.specs.Objects.{fields_at}
use Rattle.cells.specs.Fold.{all_below}
use mathlib.Core.Path.{◌≡◌}
use Rattle.validity.proofs.valid_objects.Given as goal

abbrev pub invariant-loop-p : goal.invariant-loop-p
invariant-loop-p l = l.ok ≡ all_below (λ q. valid_fields (fields_at l.t q)) l.p
