-- The validity check, place by place: loops bounded by the number of listed handles, each zero and each handle met once.
use Rattle.std.specs.Prelude.{ℕ, ◌+◌, ◌-◌, List, [], ◌∷◌, ◌++◌, Bool, false, not, ◌&&◌, ◌||◌, cond, length, get_or, eqb, ltb, leb}
use Rattle.model.specs.Sizes.{object_places, wait_places, max_listed, word32}
use Rattle.model.specs.Basics.{bit, all_of}
use Rattle.model.specs.Objects.{never_signaled}
use Rattle.model.specs.Layout.{header_size, wait_size, table_length, in_wait}
use Rattle.cells.specs.Fold.{all_below, some_below}
use Rattle.cells.specs.Objects.{Fields, fields_at, named}
use Rattle.cells.specs.Waits.{next_ticket, ticket_at, mode_at, owner_at, clock_at, count_at, alert_at, list_of, has}

unfoldable pub valid_fields : Fields → Bool
valid_fields x =
    cond (eqb x.kind 0) (all_of (eqb x.count 0 ∷ eqb x.owner 0 ∷ eqb x.attribute 0 ∷ []))
    (cond (eqb x.kind 1) (all_of (leb x.count x.attribute ∷ ltb x.attribute word32 ∷ not (never_signaled x.attribute) ∷ eqb x.owner 0 ∷ []))
    (cond (eqb x.kind 2) (all_of (ltb x.owner word32 ∷ ltb x.count word32 ∷ leb x.attribute 1 ∷ eqb (bit (eqb x.owner 0)) (bit (eqb x.count 0))
    ∷ (eqb x.attribute 0 || eqb x.owner 0) ∷ []))
    (cond (eqb x.kind 3) (all_of (leb x.count 1 ∷ leb x.attribute 1 ∷ eqb x.owner 0 ∷ [])) false)))

unfoldable pub occupied_at : List ℕ → ℕ → Bool
occupied_at t h = ltb 0 (named t h).kind

unfoldable pub event_at : List ℕ → ℕ → Bool
event_at t h = eqb (named t h).kind 3

-- for all an empty list is refused (house), for any it is not (1/13)
unfoldable pub too_few : ℕ → ℕ → Bool
too_few mode n = not (eqb mode 0) && eqb n 0

-- a list's handles are all occupied; some number stands in it twice
unfoldable pub occupied_list : List ℕ → List ℕ → Bool
occupied_list t list = all_below (λ i. occupied_at t (get_or list i 0)) (length list)

unfoldable pub repeated_list : List ℕ → Bool
repeated_list list = some_below (λ k. some_below (λ j. eqb (get_or list j 0) (get_or list k 0)) k) (length list)

-- handles for a mode: they are occupied, and in a wait for all none of them is the alert or stands twice
unfoldable pub proper_handles : List ℕ → ℕ → List ℕ → ℕ → Bool
proper_handles t mode list alert = occupied_list t list && (eqb mode 0 || not (has list alert || repeated_list list))

-- a list for a mode: enough handles, and proper ones
unfoldable pub proper_list : List ℕ → ℕ → List ℕ → ℕ → Bool
proper_list t mode list alert = not (too_few mode (length list)) && proper_handles t mode list alert

-- an alert is 0 or an event
abbrev pub proper_alert : List ℕ → ℕ → Bool
proper_alert t alert = eqb alert 0 || event_at t alert

-- the list's cells from the n-th on are zero
unfoldable pub unused_zero : List ℕ → ℕ → ℕ → Bool
unused_zero t p n = all_below (λ k. eqb (in_wait t p (header_size + n + k)) 0) (max_listed - n)

-- no place before p has its ticket
unfoldable pub alone_at : List ℕ → ℕ → Bool
alone_at t p = all_below (λ q. not (eqb (ticket_at t q) (ticket_at t p))) p

-- a queued wait, its header and what it names
abbrev pub header_tests : List ℕ → ℕ → List Bool
header_tests t p = ltb (ticket_at t p) (next_ticket t) ∷ alone_at t p ∷ leb (mode_at t p) 1 ∷ ltb 0 (owner_at t p) ∷ ltb (owner_at t p) word32 ∷ leb (clock_at t p) 1
    ∷ leb (in_wait t p 5) max_listed ∷ []

abbrev pub names_tests : List ℕ → ℕ → List Bool
names_tests t p = not (too_few (mode_at t p) (length (list_of t p))) ∷ occupied_list t (list_of t p) ∷ unused_zero t p (count_at t p)
    ∷ (eqb (alert_at t p) 0 || event_at t (alert_at t p)) ∷ (eqb (mode_at t p) 0 || not (has (list_of t p) (alert_at t p) || repeated_list (list_of t p))) ∷ []

unfoldable pub valid_queued : List ℕ → ℕ → Bool
valid_queued t p = all_of (header_tests t p ++ names_tests t p)

unfoldable pub valid_free : List ℕ → ℕ → Bool
valid_free t p = all_below (λ j. eqb (in_wait t p j) 0) wait_size

unfoldable pub valid_place : List ℕ → ℕ → Bool
valid_place t p = cond (eqb (ticket_at t p) 0) (valid_free t p) (valid_queued t p)

unfoldable pub valid_cells : List ℕ → Bool
valid_cells t = all_of (eqb (length t) table_length ∷ ltb 0 (next_ticket t) ∷ all_below (λ p. valid_fields (fields_at t p)) object_places ∷ all_below (valid_place t) wait_places ∷ [])
