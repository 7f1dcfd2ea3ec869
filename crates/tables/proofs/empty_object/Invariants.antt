use Rattle.cells.specs.Calls.{empty_object}
use Rattle.cells.specs.Objects.{fields_at}
use Rattle.model.specs.Sizes.{object_places}
use Rattle.cells.specs.Fold.{search_from}
use lib.Dec.{eqb}
use mathlib.Core.Path.{◌≡◌}
use Prim.Native.Nat.{◌-◌}
use Rattle.tables.proofs.empty_object.Given as goal

abbrev pub invariant-loop-p : goal.invariant-loop-p
invariant-loop-p l = empty_object l.t ≡ search_from (λ q. eqb (fields_at l.t q).kind 0) l.p (object_places - l.p)
