-- Readings on tables: what a host sees (`seen`) and is handed (`handed`) of `table_step` itself, on cells that are written out
-- here. So `records`, `overwrite`, `least` and `encode` are computed where no other side shares them. That the cells show the
-- state computed with is a hypothesis here, which the laws prove in TableReadings.antt: `view` finds each of thousands of cells
-- from the front. So no law stands above this file, and a wrong definition is first refused by a reading.
use mathlib.Core.Path.{◌≡◌, refl, ap}
use mathlib.Core.Bool.{Bool, true, false, not, ◌&&◌, cond}
use mathlib.Core.List.{List, [], ◌∷◌, ◌++◌, map}
use Prim.Native.Nat.{ℕ, ◌+◌, ◌-◌, ◌*◌}
use lib.ListN.{length, get_or, replicate}
use lib.Dec.{eqb, ltb, leb}
use Rattle.model.specs.Sizes.{object_places, wait_places, max_listed, never, tickets_end, wake_length}
use Rattle.model.specs.Basics.{any_of, all_of, member, has_repeat, tabulate, joined}
use Rattle.model.specs.Objects.{empty, mutex}
use Rattle.model.specs.Waits.{any, all, free, waiting, State, object_at, any_waiting, lowest_signaled, all_signaled, look, attempt, acquire_each, any_abandoned, dequeue}
use Rattle.model.specs.Waits.{oldest, concerned_by, serve, try_to_serve, walk_queue}
use Rattle.model.specs.Calls.{a_semaphore, an_event, set_event, unlock, create, reset_event, read, signal, wait, expire, cancel}
use Rattle.model.specs.Calls.{Call, nothing_lent, wake_lent, asks, least, lowest_empty, all_occupied, waits_full, enqueue}
use Rattle.model.specs.Calls.{refusals, admits, end_each, change}
use Rattle.model.specs.Snapshot.{ascii, digits_up_to, line, object_text, objects_text, object_count, wait_text}
use Rattle.model.specs.Snapshot.{queue_from, snapshot_body, byte_sum, snapshot_text}
use Rattle.model.specs.Layout.{object_size, wait_size, object_cells, wait_cells, encode, object_of, wait_of, view, distinct_tickets}
use Rattle.model.specs.Layout.{valid_state, valid_tables}
use Rattle.model.specs.Steps.{Outcome, unaltered, first_refusal, records, library_step, on_tables, table_step, sees, seen, hands, handed}

-- tables as the next ticket and the cells of the first objects and waits; all further places are empty
pub record Rows : Type 0 where
  pub next : ℕ
  pub objects : List (List ℕ)
  pub waits : List (List ℕ)

abbrev rows : ℕ → List (List ℕ) → List (List ℕ) → Rows
rows next objects waits = record { next = next; objects = objects; waits = waits }

-- the cells: each place is filled up with zeros
abbrev padded : ℕ → List (List ℕ) → List ℕ
padded size [] = []
padded size (cells ∷ places) = (cells ++ replicate (size - length cells) 0) ++ padded size places

abbrev pub cells : Rows → List ℕ
cells r = r.next ∷ ((padded object_size r.objects ++ replicate (object_size * (object_places - length r.objects)) 0)
    ++ (padded wait_size r.waits ++ replicate (wait_size * (wait_places - length r.waits)) 0))

-- the state that each place's cells show by themselves
abbrev pub state : Rows → State
state r = record {
  objects = map (λ cs. object_of (get_or cs 0 0) (get_or cs 1 0) (get_or cs 2 0) (get_or cs 3 0)) r.objects ++ replicate (object_places - length r.objects) empty;
  waits = map (λ cs. wait_of (λ j. get_or cs j 0)) r.waits ++ replicate (wait_places - length r.waits) free;
  next = r.next;
}

-- P1's tables: semaphore 1 of 2, unset manual event, ticket 1 waits for all of both, owner 7
abbrev p1 : Rows
p1 = rows 2 ((1 ∷ 1 ∷ 0 ∷ 2 ∷ []) ∷ (3 ∷ 0 ∷ 0 ∷ 1 ∷ []) ∷ []) ((1 ∷ 1 ∷ 7 ∷ 0 ∷ never ∷ 2 ∷ 0 ∷ 1 ∷ 2 ∷ []) ∷ [])

abbrev p2 : Rows
p2 = rows 2 ((1 ∷ 0 ∷ 0 ∷ 2 ∷ []) ∷ (3 ∷ 1 ∷ 0 ∷ 1 ∷ []) ∷ []) []

-- an unset auto event, two waits for any of it: ticket 5 in place 0 until 50, ticket 3 in place 1 until 40
abbrev timed : Rows
timed = rows 6 ((3 ∷ 0 ∷ 0 ∷ 0 ∷ []) ∷ []) ((5 ∷ 0 ∷ 8 ∷ 0 ∷ 50 ∷ 1 ∷ 0 ∷ 1 ∷ []) ∷ (3 ∷ 0 ∷ 9 ∷ 0 ∷ 40 ∷ 1 ∷ 0 ∷ 1 ∷ []) ∷ [])

-- a mutex that 5 holds so many times, and an unset auto event; ticket 3 waits for any of the mutex, owner 6, on the real-time
-- clock, with the event as its alert
abbrev held_by5 : ℕ → Rows
held_by5 count = rows 4 ((2 ∷ count ∷ 5 ∷ 0 ∷ []) ∷ (3 ∷ []) ∷ []) ((3 ∷ 0 ∷ 6 ∷ 1 ∷ 90 ∷ 1 ∷ 2 ∷ 1 ∷ []) ∷ [])

abbrev held : Rows
held = held_by5 3

-- the same with its wait in the second place
abbrev in_second_place : Rows
in_second_place = rows 4 held.objects ([] ∷ held.waits)

abbrev held_text : List ℕ
held_text = ascii "next=4\nobjects=2\nhandle=1\nkind=mutex\nowner=5\ncount=3\nabandoned=0\nhandle=2\nkind=event\nsignaled=0\nmanual=0\nwaits=1\nwait=3\nmode=any\nowner=6\nclock=real\ntimeout=90\nalert=2\nn=1\nobj=1\nsum=15144\n"

-- an unset auto event; ticket 1 waits for no objects until 50, for any (0) or for all (1), owner 7, the event its alert
abbrev one_event : ℕ → List (List ℕ) → Rows
one_event next waits = rows next ((3 ∷ []) ∷ []) waits

abbrev of_none : ℕ → Rows
of_none mode = one_event 2 ((1 ∷ mode ∷ 7 ∷ 0 ∷ 50 ∷ 0 ∷ 1 ∷ []) ∷ [])

abbrev of_none_text : List ℕ
of_none_text = ascii "next=2\nobjects=1\nhandle=1\nkind=event\nsignaled=0\nmanual=0\nwaits=1\nwait=1\nmode=any\nowner=7\nclock=mono\ntimeout=50\nalert=1\nn=0\nsum=10526\n"

-- every object place an event; tickets spent; a semaphore of 2 of 1; of 0 of a maximum
abbrev full : Rows
full = rows 1 (tabulate object_places (λ p. 3 ∷ [])) []

abbrev spent : Rows
spent = rows tickets_end ((3 ∷ []) ∷ []) []

abbrev damaged : Rows
damaged = rows 1 ((1 ∷ 2 ∷ 0 ∷ 1 ∷ []) ∷ []) []

abbrev of_maximum : ℕ → Rows
of_maximum m = rows 1 ((1 ∷ 0 ∷ 0 ∷ m ∷ []) ∷ []) []

abbrev sevens : ℕ → List ℕ
sevens n = replicate n 7

-- cells can show the state: it has their number of places, and no wait has ticket 0 or more handles than a list has cells
abbrev pub fits : State → Bool
fits s = all_of (eqb (length s.objects) object_places ∷ eqb (length s.waits) wait_places
    ∷ not (any_waiting (λ w. not (ltb 0 w.ticket && leb (length w.list) max_listed)) s.waits) ∷ [])

-- the cells are those of the state that they show place by place
abbrev pub Written : Rows → Type 0
Written r = (cells r ≡ encode (state r)) × (fits (state r) ≡ true)

-- what is taken here, and proved by the laws (TableReadings.antt): such cells are read as that state
abbrev pub ShownByPlaces : Type 0
ShownByPlaces = (r : Rows) → Written r → (view (cells r) ≡ state r) × (valid_tables (cells r) ≡ valid_state (state r))

reads : ShownByPlaces → {A : Type 0} (f : Outcome (List ℕ) → A) (r : Rows) (c : Call) {a : A} → Written r
    → f (cond (valid_state (state r)) (on_tables (library_step (state r) c)) (unaltered 9 c.lent (cells r))) ≡ a → f (table_step (cells r) c) ≡ a
unfolding table_step
reads shown f r c {a} w p = let (v, t) = shown r w in rw (t, v) p

-- `view` itself, of single places: a mutex in the first, a wait in the second
pub view_readings : (object_at (view (cells held)).objects 1 ≡ mutex 5 3 false)
    × (get_or (view (cells in_second_place)).waits 1 free ≡ waiting record { ticket = 3; mode = any; owner = 6; clock = 1; timeout = 90; alert = 2; list = 1 ∷ [] })
unfolding view tabulate
view_readings = (refl, refl)

abbrev pub TableReadings : Type 0
TableReadings =
    -- P2
    (seen (table_step (cells p1) (asks (signal set_event 2) (wake_lent (sevens wake_length))))
    ≡ sees (0 ∷ 0 ∷ 0 ∷ 1 ∷ []) (wake_lent (1 ∷ 0 ∷ 0 ∷ sevens (wake_length - 3))) (cells p2))
    -- the records by ticket, from the front; the rest is unaltered; the front that is handed out, and none after a refusal
    × (seen (table_step (cells timed) (asks (expire 0 50) (wake_lent (sevens (wake_length + 1)))))
    ≡ sees (0 ∷ 0 ∷ 0 ∷ 2 ∷ []) (wake_lent (3 ∷ 5 ∷ 0 ∷ 5 ∷ 5 ∷ 0 ∷ sevens (wake_length - 5))) (cells (one_event 6 [])))
    × (handed (table_step (cells timed) (asks (expire 0 50) (wake_lent (sevens wake_length))))
    ≡ hands (0 ∷ 0 ∷ 2 ∷ []) (3 ∷ 5 ∷ 0 ∷ 5 ∷ 5 ∷ 0 ∷ []) (cells (one_event 6 [])))
    × (handed (table_step (cells timed) (asks (expire 2 50) (wake_lent (sevens wake_length)))) ≡ hands (1 ∷ 0 ∷ 0 ∷ []) [] (cells timed))
    -- one answer each of 7, 8, 9 and 12
    × (seen (table_step (cells full) (asks (create a_semaphore 0 1) nothing_lent)) ≡ sees (7 ∷ 0 ∷ 0 ∷ 0 ∷ []) nothing_lent (cells full))
    × (seen (table_step (cells spent) (asks (wait any (1 ∷ []) 7 0 0 0 never 0) nothing_lent))
    ≡ sees (8 ∷ 0 ∷ 0 ∷ 0 ∷ []) nothing_lent (cells spent))
    × (seen (table_step (cells damaged) (asks (signal set_event 2) (wake_lent (sevens wake_length))))
    ≡ sees (9 ∷ 0 ∷ 0 ∷ 0 ∷ []) (wake_lent (sevens wake_length)) (cells damaged))
    × (seen (table_step (cells timed) (asks (expire 0 50) (wake_lent (sevens (wake_length - 1)))))
    ≡ sees (12 ∷ 0 ∷ 0 ∷ 0 ∷ []) (wake_lent (sevens (wake_length - 1))) (cells timed))
    -- an unlock above zero, a reset, flags above 1
    × (seen (table_step (cells held) (asks (signal (unlock 5) 1) (wake_lent (sevens wake_length))))
    ≡ sees (0 ∷ 3 ∷ 0 ∷ 0 ∷ []) (wake_lent (sevens wake_length)) (cells (held_by5 2)))
    × (seen (table_step (cells p2) (asks (reset_event 2) nothing_lent))
    ≡ sees (0 ∷ 1 ∷ 0 ∷ 0 ∷ []) nothing_lent (cells (rows 2 ((1 ∷ 0 ∷ 0 ∷ 2 ∷ []) ∷ (3 ∷ 0 ∷ 0 ∷ 1 ∷ []) ∷ []) [])))
    × (seen (table_step (cells p2) (asks (create an_event 2 5) nothing_lent))
    ≡ sees (0 ∷ 3 ∷ 0 ∷ 0 ∷ []) nothing_lent
    (cells (rows 2 ((1 ∷ 0 ∷ 0 ∷ 2 ∷ []) ∷ (3 ∷ 1 ∷ 0 ∷ 1 ∷ []) ∷ (3 ∷ 1 ∷ 0 ∷ 1 ∷ []) ∷ []) [])))
    -- 1/13, no objects: queued; woken by the alert, which is cleared; due; cancelled; for all refused, and damage in tables
    × (seen (table_step (cells (one_event 1 [])) (asks (wait any [] 7 0 0 1 50 0) nothing_lent))
    ≡ sees (11 ∷ 0 ∷ 1 ∷ 0 ∷ []) nothing_lent (cells (of_none 0)))
    × (seen (table_step (cells (of_none 0)) (asks (signal set_event 1) (wake_lent (sevens wake_length))))
    ≡ sees (0 ∷ 0 ∷ 0 ∷ 1 ∷ []) (wake_lent (1 ∷ 0 ∷ 0 ∷ sevens (wake_length - 3))) (cells (one_event 2 [])))
    × (seen (table_step (cells (of_none 0)) (asks (expire 0 50) (wake_lent (sevens wake_length))))
    ≡ sees (0 ∷ 0 ∷ 0 ∷ 1 ∷ []) (wake_lent (1 ∷ 5 ∷ 0 ∷ sevens (wake_length - 3))) (cells (one_event 2 [])))
    × (seen (table_step (cells (of_none 0)) (asks (cancel 1) nothing_lent)) ≡ sees (6 ∷ 0 ∷ 0 ∷ 0 ∷ []) nothing_lent (cells (one_event 2 [])))
    × (seen (table_step (cells (one_event 1 [])) (asks (wait all [] 7 0 0 1 50 0) nothing_lent))
    ≡ sees (1 ∷ 0 ∷ 0 ∷ 0 ∷ []) nothing_lent (cells (one_event 1 [])))
    × (seen (table_step (cells (of_none 1)) (asks (cancel 1) nothing_lent)) ≡ sees (9 ∷ 0 ∷ 0 ∷ 0 ∷ []) nothing_lent (cells (of_none 1)))
    -- 4/13: a maximum of 0 is damage, one of 1 is not; it is refused with 1 also where every place is in use, before 7
    × (seen (table_step (cells (of_maximum 0)) (asks (read a_semaphore 1) nothing_lent))
    ≡ sees (9 ∷ 0 ∷ 0 ∷ 0 ∷ []) nothing_lent (cells (of_maximum 0)))
    × (seen (table_step (cells (of_maximum 1)) (asks (read a_semaphore 1) nothing_lent))
    ≡ sees (0 ∷ 0 ∷ 1 ∷ 0 ∷ []) nothing_lent (cells (of_maximum 1)))
    × (seen (table_step (cells full) (asks (create a_semaphore 0 0) nothing_lent)) ≡ sees (1 ∷ 0 ∷ 0 ∷ 0 ∷ []) nothing_lent (cells full))
    -- 5/13: of 512 events the last is waited for, in a list and as an alert; 513 is no handle
    × (seen (table_step (cells full) (asks (wait any (512 ∷ []) 7 0 0 512 never 0) nothing_lent))
    ≡ sees (11 ∷ 0 ∷ 1 ∷ 0 ∷ []) nothing_lent (cells (rows 2 full.objects ((1 ∷ 0 ∷ 7 ∷ 0 ∷ never ∷ 1 ∷ 512 ∷ 512 ∷ []) ∷ []))))
    × (seen (table_step (cells full) (asks (wait any (512 ∷ 513 ∷ []) 7 0 0 0 never 0) nothing_lent))
    ≡ sees (1 ∷ 0 ∷ 0 ∷ 0 ∷ []) nothing_lent (cells full))

-- of tables that are read more than once
written : Written full
    × Written timed
    × Written p2
    × Written held
    × Written (one_event 1 [])
    × Written (of_none 0)
unfolding encode tabulate joined object_cells wait_cells all_of oldest
written = ((refl, refl), (refl, refl), (refl, refl), (refl, refl), (refl, refl), (refl, refl))

pub readings_by_places : ShownByPlaces → TableReadings
unfolding encode tabulate joined object_cells wait_cells all_of oldest distinct_tickets lowest_signaled all_signaled look attempt acquire_each any_abandoned dequeue serve try_to_serve member concerned_by walk_queue library_step first_refusal records refusals change least lowest_empty waits_full enqueue all_occupied has_repeat any_of admits end_each
readings_by_places shown = (
  reads shown seen p1 _ (refl, refl) refl,
  reads shown seen timed _ written.1 refl,
  reads shown handed timed _ written.1 refl,
  reads shown handed timed _ written.1 refl,
  reads shown seen full _ written.0 refl,
  reads shown seen spent _ (refl, refl) refl,
  reads shown seen damaged _ (refl, refl) refl,
  reads shown seen timed _ written.1 refl,
  reads shown seen held _ written.3 refl,
  reads shown seen p2 _ written.2 refl,
  reads shown seen p2 _ written.2 refl,
  reads shown seen (one_event 1 []) _ written.4 refl,
  reads shown seen (of_none 0) _ written.5 refl,
  reads shown seen (of_none 0) _ written.5 refl,
  reads shown seen (of_none 0) _ written.5 refl,
  reads shown seen (one_event 1 []) _ written.4 refl,
  reads shown seen (of_none 1) _ (refl, refl) refl,
  reads shown seen (of_maximum 0) _ (refl, refl) refl,
  reads shown seen (of_maximum 1) _ (refl, refl) refl,
  reads shown seen full _ written.0 refl,
  reads shown seen full _ written.0 refl,
  reads shown seen full _ written.0 refl,
)

-- a text with a mutex, mode any and the real-time clock, of the state that the tables show; one of a wait without obj lines
abbrev pub TextReading : Type 0
TextReading = (snapshot_text (view (cells held)) ≡ held_text) × (snapshot_text (view (cells (of_none 0))) ≡ of_none_text)

pub text_by_places : ShownByPlaces → TextReading
unfolding encode tabulate joined object_cells wait_cells all_of oldest snapshot_body byte_sum snapshot_text object_text objects_text object_count wait_text queue_from line digits_up_to
text_by_places shown = (ap snapshot_text (shown held written.3).0, ap snapshot_text (shown (of_none 0) written.5).0)
