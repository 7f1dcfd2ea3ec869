-- The search for the lowest ticket.
use Rattle.std.specs.Prelude.{ℕ, ◌<◌, ◌≡◌, List, Bool, true, Option, Some, None, nat_lt}
use Rattle.model.specs.Sizes.{wait_places}
use Rattle.cells.specs.Waits.{ticket_at}

-- the ticket at place i is below that of the best place so far, if there is one
abbrev pub lower_than : List ℕ → ℕ → Option ℕ → Bool
lower_than t i (Some b) = nat_lt (ticket_at t i) (ticket_at t b)
lower_than t i None = true

-- what calls answer at a wait place is what ok says of it
abbrev pub Tells : (ℕ → Bool → Type 0) → (ℕ → Bool) → Type 0
Tells post ok = (i : ℕ) (b : Bool) → i < wait_places → post i b → b ≡ ok i
