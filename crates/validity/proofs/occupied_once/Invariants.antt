use Rattle.refine.proofs.Shapes.{once_at, seen_names}
use Rattle.cells.specs.Fold.{all_below}
use mathlib.Core.Bool.{true}
use mathlib.Core.Path.{◌≡◌}
use Rattle.validity.proofs.occupied_once.Given as goal

abbrev pub invariant-loop-h : goal.invariant-loop-h
invariant-loop-h l = (all_below (once_at l.t l.list l.alert) l.h-index ≡ true) × (l.seen ≡ seen_names l.alert l.list l.h-index)
