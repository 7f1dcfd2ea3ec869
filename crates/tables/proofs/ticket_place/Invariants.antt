use Rattle.cells.specs.Calls.{ticket_place}
use Rattle.cells.specs.Waits.{ticket_at}
use Rattle.model.specs.Sizes.{wait_places}
use Rattle.cells.specs.Fold.{search_from}
use lib.Dec.{eqb}
use mathlib.Core.Path.{◌≡◌}
use Prim.Native.Nat.{◌-◌}
use Rattle.tables.proofs.ticket_place.Given as goal

abbrev pub invariant-loop-p : goal.invariant-loop-p
invariant-loop-p l = ticket_place l.t l.ticket ≡ search_from (λ q. eqb (ticket_at l.t q) l.ticket) l.p (wait_places - l.p)
