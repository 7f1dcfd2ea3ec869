-- The wait places as cells, and records of a wake list.
use Rattle.std.specs.Prelude.{ℕ, ◌+◌, ◌*◌, List, Bool, cond, length, get_or, set, take, drop, eqb, ltb, leb}
use Rattle.model.specs.Sizes.{wait_places, max_listed}
use Rattle.model.specs.Layout.{header_size, wait_size, waits_base, in_wait}
use Rattle.cells.specs.Fold.{fold_below, some_below}

-- the first cell of wait place p
abbrev pub wait_cell : ℕ → ℕ
wait_cell p = waits_base + wait_size * p

-- the next ticket
abbrev pub next_ticket : List ℕ → ℕ
next_ticket t = get_or t 0 0

abbrev pub put_next : List ℕ → ℕ → List ℕ
put_next t n = set t 0 n

unfoldable pub ticket_at : List ℕ → ℕ → ℕ
ticket_at t p = in_wait t p 0

unfoldable pub mode_at : List ℕ → ℕ → ℕ
mode_at t p = in_wait t p 1

unfoldable pub owner_at : List ℕ → ℕ → ℕ
owner_at t p = in_wait t p 2

unfoldable pub clock_at : List ℕ → ℕ → ℕ
clock_at t p = in_wait t p 3

unfoldable pub timeout_at : List ℕ → ℕ → ℕ
timeout_at t p = in_wait t p 4

-- the number of listed handles; a number past the list counts none
unfoldable pub count_at : List ℕ → ℕ → ℕ
count_at t p = cond (leb (in_wait t p 5) max_listed) (in_wait t p 5) 0

unfoldable pub alert_at : List ℕ → ℕ → ℕ
alert_at t p = in_wait t p 6

-- the list, a part of the tables; with the alert before it, all the handles that the wait names
unfoldable pub list_of : List ℕ → ℕ → List ℕ
list_of t p = take (count_at t p) (drop (wait_cell p + header_size) t)

unfoldable pub names_of : List ℕ → ℕ → List ℕ
names_of t p = take (count_at t p + 1) (drop (wait_cell p + 6) t)

-- a list has h
unfoldable pub has : List ℕ → ℕ → Bool
has list h = some_below (λ i. eqb (get_or list i 0) h) (length list)

-- the wait at place p, if any, is queued; its list or alert names h
abbrev pub queued_at : List ℕ → ℕ → Bool
queued_at t p = ltb 0 (ticket_at t p)

unfoldable pub names_at : List ℕ → ℕ → ℕ → Bool
names_at t h p = has (names_of t p) h

-- a wait leaves: all its cells are zero
unfoldable pub clear_wait : List ℕ → ℕ → List ℕ
clear_wait t p = fold_below (λ u i. set u (wait_cell p + i) 0) t wait_size

-- place i instead of the best so far, where it passes and its ticket is below the best one's; wait_places is none
unfoldable pub better : List ℕ → (ℕ → Bool) → ℕ → ℕ → ℕ
better t ok best i = cond (ok i) (cond (ltb best wait_places) (cond (ltb (ticket_at t i) (ticket_at t best)) i best) i) best

-- of the places that pass, the one of the lowest ticket
unfoldable pub lowest : List ℕ → (ℕ → Bool) → ℕ
lowest t ok = fold_below (better t ok) wait_places wait_places

-- the place of the lowest ticket above last
unfoldable pub next_wait : List ℕ → ℕ → ℕ
next_wait t last = lowest t (λ i. ltb last (ticket_at t i))

-- record k of a wake list
unfoldable pub put_record : List ℕ → ℕ → ℕ → ℕ → ℕ → List ℕ
put_record wake k ticket answer index = set (set (set wake (3 * k) ticket) (3 * k + 1) answer) (3 * k + 2) index
