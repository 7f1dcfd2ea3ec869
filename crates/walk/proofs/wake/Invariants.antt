use Rattle.walk.proofs.Laws.{Names}
use Rattle.attempt.proofs.Laws.{SignaledIn}
use Rattle.cells.specs.Walk.{walked, walk_cells, wake_cells}
use Rattle.cells.specs.Waits.{owner_at, list_of}
use Rattle.cells.specs.Fold.{all_below}
use Rattle.model.specs.Layout.{table_length}
use Rattle.model.specs.Sizes.{wait_places}
use mathlib.Core.Path.{◌≡◌}
use mathlib.Core.Bool.{true}
use lib.ListN.{length}
use Prim.Native.Nat.{◌≤◌, ◌-◌}
use Rattle.walk.proofs.wake.Given as goal

abbrev pub invariant-loop-x : goal.invariant-loop-x
invariant-loop-x l = (all_below (SignaledIn l.found (owner_at l.found l.p) (list_of l.found l.p)) l.x-index ≡ true) × (l.wake ≡ l.initial.wake) × (l.k ≡ l.initial.k)

abbrev pub invariant-waits : goal.invariant-waits
invariant-waits l = (l.k ≤ l.turn) × (length l.t ≡ table_length) × (wake_cells l.initial.t l.h l.initial.wake ≡ walk_cells (wait_places - l.turn) (Names l.h) l.last (walked l.k l.t l.wake))
