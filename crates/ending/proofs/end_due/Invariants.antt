use Rattle.cells.specs.Walk.{walked, end_cells}
use Rattle.model.specs.Sizes.{wait_places}
use Rattle.model.specs.Layout.{table_length}
use lib.ListN.{length}
use mathlib.Core.Path.{◌≡◌}
use Prim.Native.Nat.{◌-◌}
use Rattle.ending.proofs.end_due.Given as goal

abbrev pub invariant-loop-k : goal.invariant-loop-k
invariant-loop-k l = (length l.t ≡ table_length) × (end_cells wait_places l.clock l.time (walked 0 l.initial.t l.initial.wake) ≡ end_cells (wait_places - l.k) l.clock l.time (walked l.k l.t l.wake))
