-- The wake walk, and the ending of waits whose time is up.
use Rattle.std.specs.Prelude.{ℕ, zero, suc, ◌+◌, List, Bool, ◌&&◌, cond, eqb, ltb}
use Rattle.model.specs.Sizes.{wait_places}
use Rattle.model.specs.Calls.{time_up}
use Rattle.cells.specs.Waits.{queued_at, ticket_at, clock_at, timeout_at, names_at, clear_wait, lowest, next_wait, put_record}
use Rattle.cells.specs.Attempt.{Tried, try_at}

-- count records are written; tables and wake list as they then are
pub record Walked : Type 0 where
  pub count : ℕ
  pub tables : List ℕ
  pub wake : List ℕ

abbrev pub walked : ℕ → List ℕ → List ℕ → Walked
walked k t wake = record { count = k; tables = t; wake = wake }

-- the wait at place p leaves and is reported
unfoldable pub report : ℕ → ℕ → ℕ → List ℕ → Walked → Walked
report p answer index t s = walked (s.count + 1) (clear_wait t p) (put_record s.wake s.count (ticket_at s.tables p) answer index)

-- which waits a change concerns: those at the places that pass, where the tables are t
abbrev pub Concern : Type 0
Concern = List ℕ → ℕ → Bool

-- a wait that was served leaves and is reported, by its ticket, in record k
abbrev pub settled : Tried → ℕ → ℕ → ℕ → List ℕ → Walked
settled r p k ticket wake = cond r.served (walked (k + 1) (clear_wait r.tables p) (put_record wake k ticket r.answer r.index)) (walked k r.tables wake)

-- a wait that is concerned is tried, and if served leaves and is reported
unfoldable pub settle : Tried → ℕ → Walked → Walked
settle r p s = cond r.served (report p r.answer r.index r.tables s) s

unfoldable pub visit_cells : Concern → ℕ → Walked → Walked
visit_cells C p s = cond (C s.tables p) (settle (try_at s.tables p) p s) s

-- at most n waits whose tickets are above last, lowest first
unfoldable pub walk_cells : ℕ → Concern → ℕ → Walked → Walked
walk_cells zero C last s = s
walk_cells (suc n) C last s = let p = next_wait s.tables last in let on = walk_cells n C (ticket_at s.tables p) (visit_cells C p s) in
    cond (ltb p wait_places) on s

-- the walk after object h has changed
unfoldable pub wake_cells : List ℕ → ℕ → List ℕ → Walked
wake_cells t h wake = walk_cells wait_places (λ u p. names_at u h p) 0 (walked 0 t wake)

-- a queued wait on this clock whose time is up
unfoldable pub due_at : List ℕ → ℕ → ℕ → ℕ → Bool
due_at t clock time p = queued_at t p && (eqb (clock_at t p) clock && time_up (timeout_at t p) time)

-- at most n waits that are due, lowest ticket first
unfoldable pub end_cells : ℕ → ℕ → ℕ → Walked → Walked
end_cells zero clock time s = s
end_cells (suc n) clock time s = let p = lowest s.tables (due_at s.tables clock time) in let on = end_cells n clock time (report p 5 0 s.tables s) in
    cond (ltb p wait_places) on s
