-- P1 to P12 of document 01 ("Bench readings"), as one checked list, by computation, for the library's step and for the
-- reference's.
use mathlib.Core.Path.{◌≡◌, refl}
use mathlib.Core.Bool.{false}
use mathlib.Core.List.{List, [], ◌∷◌, ◌++◌, map}
use Prim.Native.Nat.{ℕ, suc, ◌-◌}
use lib.ListN.{replicate}
use Rattle.model.specs.Basics.{any_of, member, has_repeat, tabulate, joined}
use Rattle.model.specs.Calls.{a_semaphore, a_mutex, an_event, post, unlock, kill, set_event, pulse_event, Operation}
use Rattle.model.specs.Calls.{create, close, read, signal, wait, expire, cancel, wake_lent, Call, least}
use Rattle.model.specs.Calls.{lowest_empty, all_occupied, waits_full, enqueue, refusals, admits, end_each, change, new_wait}
use Rattle.model.specs.Snapshot.{ascii, digits_up_to, line, object_text, objects_text, object_count, wait_text}
use Rattle.model.specs.Snapshot.{queue_from, snapshot_body, byte_sum, snapshot_text}
use Rattle.model.specs.Sizes.{object_places, wait_places, mutex_ceiling, never, wake_length}
use Rattle.model.specs.Objects.{empty, event}
use Rattle.model.specs.Steps.{Outcome, first_refusal, records, library_step, reference_step, run}
use Rattle.model.specs.Waits.{Mode, any, all, State, initial, lowest_signaled, all_signaled, look, attempt}
use Rattle.model.specs.Waits.{acquire_each, any_abandoned, dequeue, oldest, concerned_by, serve, try_to_serve}
use Rattle.model.specs.Waits.{walk_queue, search_queue, WaitPlace, free, waiting}

-- what the caller hears: the answer, the two numbers, the reports as (ticket, answer, index)
pub record Heard : Type 0 where
  pub answer : ℕ
  pub first : ℕ
  pub second : ℕ
  pub woken : List (List ℕ)

abbrev heard : Outcome State → Heard
heard o = record { answer = o.answer; first = o.first; second = o.second; woken = map (λ r. r.ticket ∷ r.answer ∷ r.index ∷ []) o.reports }

abbrev says : ℕ → ℕ → ℕ → Heard
says a x y = record { answer = a; first = x; second = y; woken = [] }

abbrev reports : ℕ → List (List ℕ) → Heard
reports x rs = record { answer = 0; first = x; second = 0; woken = rs }

-- a call that is lent a full wake list and no buffer
abbrev calling : Operation → Call
calling op = record { operation = op; lent = wake_lent (replicate wake_length 0) }

-- owner o waits without alert, for ever
abbrev waits : Mode → List ℕ → ℕ → Operation
waits m hs o = wait m hs o 0 0 0 never 0

-- owner 7 waits for no objects, with this alert until this time, at this time
abbrev for_none : Mode → ℕ → ℕ → ℕ → Operation
for_none m alert timeout time = wait m [] 7 0 0 alert timeout time

abbrev set_up : List Operation
set_up = create a_semaphore 1 2 ∷ create an_event 0 1 ∷ waits all (1 ∷ 2 ∷ []) 7 ∷ []

abbrev pub examples : List (List Operation)
examples =
    (set_up ++ (signal set_event 2 ∷ read a_semaphore 1 ∷ read an_event 2 ∷ []))  -- P1, P2
    ∷ (create a_semaphore 1 3 ∷ signal (post 2) 1 ∷ read a_semaphore 1 ∷ [])  -- P3
    ∷ (create a_semaphore 1 3 ∷ signal (post 3) 1 ∷ read a_semaphore 1 ∷ [])  -- P4
    ∷ (create an_event 0 0 ∷ waits any (1 ∷ []) 7 ∷ waits any (1 ∷ []) 8 ∷ signal pulse_event 1 ∷ read an_event 1 ∷ [])  -- P5
    ∷ (create an_event 0 1 ∷ waits any (1 ∷ []) 7 ∷ waits any (1 ∷ []) 8 ∷ signal pulse_event 1 ∷ read an_event 1 ∷ [])  -- P6
    ∷ (create a_mutex 5 1 ∷ waits any (1 ∷ []) 6 ∷ waits any (1 ∷ []) 6 ∷ signal (unlock 5) 1 ∷ read a_mutex 1 ∷ [])  -- P7
    ∷ (create a_mutex 5 1 ∷ waits any (1 ∷ []) 6 ∷ signal (kill 5) 1 ∷ read a_mutex 1 ∷ [])  -- P8
    ∷ (create a_mutex 5 mutex_ceiling ∷ waits any (1 ∷ []) 5 ∷ signal (unlock 5) 1 ∷ read a_mutex 1 ∷ [])  -- P9
    ∷ (create an_event 1 0 ∷ wait any (1 ∷ 1 ∷ []) 7 0 0 1 never 0 ∷ read an_event 1 ∷ [])  -- P10
    ∷ (create an_event 0 0 ∷ wait any (1 ∷ []) 7 0 0 0 40 40 ∷ wait any (1 ∷ []) 7 0 0 0 41 40 ∷ [])  -- P11
    ∷ (create an_event 0 0 ∷ wait any (1 ∷ []) 7 0 0 0 never never ∷ [])  -- P12
    ∷ []

abbrev pub expected : List (List Heard)
expected =
    (says 0 1 0 ∷ says 0 2 0 ∷ says 11 0 1 ∷ reports 0 ((1 ∷ 0 ∷ 0 ∷ []) ∷ []) ∷ says 0 0 2 ∷ says 0 1 1 ∷ [])
    ∷ (says 0 1 0 ∷ says 0 1 0 ∷ says 0 3 3 ∷ [])
    ∷ (says 0 1 0 ∷ says 3 0 0 ∷ says 0 1 3 ∷ [])
    ∷ (says 0 1 0 ∷ says 11 0 1 ∷ says 11 0 2 ∷ reports 0 ((1 ∷ 0 ∷ 0 ∷ []) ∷ []) ∷ says 0 0 0 ∷ [])
    ∷ (says 0 1 0 ∷ says 11 0 1 ∷ says 11 0 2 ∷ reports 0 ((1 ∷ 0 ∷ 0 ∷ []) ∷ (2 ∷ 0 ∷ 0 ∷ []) ∷ []) ∷ says 0 0 1 ∷ [])
    ∷ (says 0 1 0 ∷ says 11 0 1 ∷ says 11 0 2 ∷ reports 1 ((1 ∷ 0 ∷ 0 ∷ []) ∷ (2 ∷ 0 ∷ 0 ∷ []) ∷ []) ∷ says 0 6 2 ∷ [])
    ∷ (says 0 1 0 ∷ says 11 0 1 ∷ reports 0 ((1 ∷ 4 ∷ 0 ∷ []) ∷ []) ∷ says 0 6 1 ∷ [])
    ∷ (says 0 1 0 ∷ says 11 0 1 ∷ reports mutex_ceiling ((1 ∷ 0 ∷ 0 ∷ []) ∷ []) ∷ says 0 5 mutex_ceiling ∷ [])
    ∷ (says 0 1 0 ∷ says 0 0 0 ∷ says 0 0 0 ∷ [])
    ∷ (says 0 1 0 ∷ says 5 0 0 ∷ says 11 0 1 ∷ [])
    ∷ (says 0 1 0 ∷ says 11 0 1 ∷ [])
    ∷ []

pub examples_library : map (λ ops. map heard (run library_step initial (map calling ops))) examples ≡ expected
unfolding lowest_signaled all_signaled look attempt acquire_each any_abandoned dequeue oldest serve try_to_serve member concerned_by walk_queue library_step first_refusal records run refusals change least lowest_empty waits_full enqueue all_occupied has_repeat any_of admits end_each
examples_library = refl

pub examples_reference : map (λ ops. map heard (run reference_step initial (map calling ops))) examples ≡ expected
unfolding lowest_signaled all_signaled look attempt acquire_each any_abandoned dequeue oldest serve try_to_serve member concerned_by search_queue reference_step first_refusal records run refusals change least lowest_empty waits_full enqueue all_occupied has_repeat any_of admits end_each
examples_reference = refl

-- FURTHER READINGS, one for each way of going wrong that the readings above leave open
abbrev pub further_examples : List (List Operation)
further_examples =
    -- lowest ticket first, not lowest place: the third wait stands in the first one's place
    (create an_event 0 0 ∷ waits any (1 ∷ []) 7 ∷ waits any (1 ∷ []) 8 ∷ cancel 1 ∷ waits any (1 ∷ []) 9 ∷ signal set_event 1 ∷ [])
    -- a wait that can't be served does not stop the walk
    ∷ (create a_semaphore 0 3 ∷ create an_event 0 1 ∷ waits all (1 ∷ 2 ∷ []) 7 ∷ waits any (1 ∷ []) 8 ∷ signal (post 1) 1 ∷ read a_semaphore 1 ∷ [])
    -- an alert is a name, and comes after the list
    ∷ (create a_semaphore 0 3 ∷ create an_event 0 0 ∷ wait any (1 ∷ []) 7 0 0 2 never 0 ∷ signal set_event 2 ∷ read an_event 2 ∷ [])
    ∷ (create a_semaphore 1 3 ∷ create an_event 1 0 ∷ wait any (1 ∷ []) 7 0 0 2 never 0 ∷ read a_semaphore 1 ∷ read an_event 2 ∷ [])
    -- 0 is never a handle, nor is the number after the last place
    ∷ (create a_semaphore 1 3 ∷ read a_semaphore 0 ∷ read a_semaphore (suc object_places) ∷ waits any (0 ∷ []) 7 ∷ close 0 ∷ [])
    -- a wait for all takes nothing unless it takes all
    ∷ (create a_semaphore 1 3 ∷ create a_semaphore 0 3 ∷ waits all (1 ∷ 2 ∷ []) 7 ∷ read a_semaphore 1 ∷ signal (post 1) 2 ∷ read a_semaphore 1 ∷ read a_semaphore 2 ∷ [])
    -- a wait for all ended by its alert answers 0, although an abandoned mutex is listed
    ∷ (create a_mutex 5 1 ∷ create a_semaphore 0 1 ∷ create an_event 0 0 ∷ wait all (1 ∷ 2 ∷ []) 7 0 0 3 never 0 ∷ signal (kill 5) 1 ∷ signal set_event 3 ∷ read a_mutex 1 ∷ [])
    -- expire by clock and time, oldest first, and never is never
    ∷ (create an_event 0 0 ∷ wait any (1 ∷ []) 7 0 0 0 50 0 ∷ wait any (1 ∷ []) 7 1 0 0 50 0 ∷ wait any (1 ∷ []) 7 0 0 0 51 0 ∷ waits any (1 ∷ []) 7 ∷ expire 0 50 ∷ expire 1 never ∷ expire 2 0 ∷ expire 0 never ∷ cancel 4 ∷ [])
    -- refusals of create, post, unlock, kill, close, cancel and the waits
    ∷ (create a_semaphore 2 1 ∷ create a_mutex 0 1 ∷ create a_mutex 1 0 ∷ create a_mutex 5 2 ∷ signal (unlock 0) 1 ∷ signal (unlock 6) 1 ∷ signal (kill 6) 1 ∷ signal set_event 1 ∷ signal (post 0) 1
    ∷ waits any (1 ∷ []) 6 ∷ close 1 ∷ cancel 2 ∷ cancel 0 ∷ waits all [] 6 ∷ wait any (1 ∷ []) 0 0 0 0 never 0 ∷ wait any (1 ∷ []) 6 2 0 0 never 0 ∷ wait any (1 ∷ []) 6 0 1 0 never 0
    ∷ wait any (1 ∷ []) 6 0 0 1 never 0 ∷ waits all (1 ∷ 1 ∷ []) 6 ∷ cancel 1 ∷ close 1 ∷ read a_mutex 1 ∷ [])
    -- adding 0 is allowed; a full queue refuses a wait that must queue, and none that can be served at once
    ∷ (create a_semaphore 1 3 ∷ signal (post 0) 1 ∷ read a_semaphore 1 ∷ create an_event 0 0
    ∷ (replicate wait_places (waits any (2 ∷ []) 7) ++ (waits any (2 ∷ []) 7 ∷ waits any (2 ∷ 1 ∷ []) 7 ∷ [])))
    -- 1/13, no objects: woken by the alert with index 0, which names it (an auto event is cleared), and a manual one, also at
    -- once; ended by time, also at once; cancelled; for all refused
    ∷ (create an_event 0 0 ∷ create an_event 0 1 ∷ for_none any 1 never 0 ∷ close 1 ∷ signal set_event 1 ∷ read an_event 1
    ∷ for_none any 2 never 0 ∷ signal set_event 2 ∷ for_none any 2 never 0 ∷ read an_event 2
    ∷ for_none any 0 50 0 ∷ expire 0 49 ∷ expire 0 50 ∷ for_none any 0 50 50 ∷ for_none any 0 never 0 ∷ expire 0 never ∷ cancel 4
    ∷ for_none all 0 never 0 ∷ for_none all 2 never 0 ∷ [])
    -- 4/13: a maximum of 0 is refused, one of 1 with either count is not; at count 0 it takes a post of 1
    ∷ (create a_semaphore 0 0 ∷ create a_semaphore 1 0 ∷ create a_semaphore 0 1 ∷ create a_semaphore 1 1 ∷ read a_semaphore 1 ∷ read a_semaphore 2
    ∷ signal (post 1) 1 ∷ signal (post 1) 2 ∷ [])
    ∷ []

abbrev pub further_expected : List (List Heard)
further_expected =
    (says 0 1 0 ∷ says 11 0 1 ∷ says 11 0 2 ∷ says 6 0 0 ∷ says 11 0 3 ∷ reports 0 ((2 ∷ 0 ∷ 0 ∷ []) ∷ []) ∷ [])
    ∷ (says 0 1 0 ∷ says 0 2 0 ∷ says 11 0 1 ∷ says 11 0 2 ∷ reports 0 ((2 ∷ 0 ∷ 0 ∷ []) ∷ []) ∷ says 0 0 3 ∷ [])
    ∷ (says 0 1 0 ∷ says 0 2 0 ∷ says 11 0 1 ∷ reports 0 ((1 ∷ 0 ∷ 1 ∷ []) ∷ []) ∷ says 0 0 0 ∷ [])
    ∷ (says 0 1 0 ∷ says 0 2 0 ∷ says 0 0 0 ∷ says 0 0 3 ∷ says 0 1 0 ∷ [])
    ∷ (says 0 1 0 ∷ says 1 0 0 ∷ says 1 0 0 ∷ says 1 0 0 ∷ says 1 0 0 ∷ [])
    ∷ (says 0 1 0 ∷ says 0 2 0 ∷ says 11 0 1 ∷ says 0 1 3 ∷ reports 0 ((1 ∷ 0 ∷ 0 ∷ []) ∷ []) ∷ says 0 0 3 ∷ says 0 0 3 ∷ [])
    ∷ (says 0 1 0 ∷ says 0 2 0 ∷ says 0 3 0 ∷ says 11 0 1 ∷ says 0 0 0 ∷ reports 0 ((1 ∷ 0 ∷ 2 ∷ []) ∷ []) ∷ says 4 0 0 ∷ [])
    ∷ (says 0 1 0 ∷ says 11 0 1 ∷ says 11 0 2 ∷ says 11 0 3 ∷ says 11 0 4 ∷ reports 0 ((1 ∷ 5 ∷ 0 ∷ []) ∷ []) ∷ reports 0 ((2 ∷ 5 ∷ 0 ∷ []) ∷ []) ∷ says 1 0 0 ∷ reports 0 ((3 ∷ 5 ∷ 0 ∷ []) ∷ []) ∷ says 6 0 0 ∷ [])
    ∷ (says 1 0 0 ∷ says 1 0 0 ∷ says 1 0 0 ∷ says 0 1 0 ∷ says 1 0 0 ∷ says 2 0 0 ∷ says 2 0 0 ∷ says 1 0 0 ∷ says 1 0 0
    ∷ says 11 0 1 ∷ says 10 0 0 ∷ says 1 0 0 ∷ says 1 0 0 ∷ says 1 0 0 ∷ says 1 0 0 ∷ says 1 0 0 ∷ says 1 0 0
    ∷ says 1 0 0 ∷ says 1 0 0 ∷ says 6 0 0 ∷ says 0 0 0 ∷ says 1 0 0 ∷ [])
    ∷ (says 0 1 0 ∷ says 0 1 0 ∷ says 0 1 3 ∷ says 0 2 0
    ∷ (tabulate wait_places (λ i. says 11 0 (suc i)) ++ (says 7 0 0 ∷ says 0 1 0 ∷ [])))
    ∷ (says 0 1 0 ∷ says 0 2 0 ∷ says 11 0 1 ∷ says 10 0 0 ∷ reports 0 ((1 ∷ 0 ∷ 0 ∷ []) ∷ []) ∷ says 0 0 0
    ∷ says 11 0 2 ∷ reports 0 ((2 ∷ 0 ∷ 0 ∷ []) ∷ []) ∷ says 0 0 0 ∷ says 0 1 1
    ∷ says 11 0 3 ∷ says 0 0 0 ∷ reports 0 ((3 ∷ 5 ∷ 0 ∷ []) ∷ []) ∷ says 5 0 0 ∷ says 11 0 4 ∷ says 0 0 0 ∷ says 6 0 0
    ∷ says 1 0 0 ∷ says 1 0 0 ∷ [])
    ∷ (says 1 0 0 ∷ says 1 0 0 ∷ says 0 1 0 ∷ says 0 2 0 ∷ says 0 0 1 ∷ says 0 1 1
    ∷ says 0 0 0 ∷ says 3 0 0 ∷ [])
    ∷ []

pub further_library : map (λ ops. map heard (run library_step initial (map calling ops))) further_examples ≡ further_expected
unfolding lowest_signaled all_signaled look attempt acquire_each any_abandoned dequeue oldest serve try_to_serve member concerned_by walk_queue library_step first_refusal records run refusals change least lowest_empty waits_full enqueue all_occupied has_repeat any_of admits end_each tabulate
further_library = refl

pub further_reference : map (λ ops. map heard (run reference_step initial (map calling ops))) further_examples ≡ further_expected
unfolding lowest_signaled all_signaled look attempt acquire_each any_abandoned dequeue oldest serve try_to_serve member concerned_by search_queue reference_step first_refusal records run refusals change least lowest_empty waits_full enqueue all_occupied has_repeat any_of admits end_each tabulate
further_reference = refl

-- the state after a history; P1's whole text
abbrev last_state : List (Outcome State) → State
last_state [] = initial
last_state (o ∷ []) = o.held
last_state (o ∷ p ∷ os) = last_state (p ∷ os)

abbrev pub reached : List Operation → State
reached ops = last_state (run library_step initial (map calling ops))

pub example_snapshot : snapshot_text (reached set_up)
    ≡ ascii "next=2\nobjects=2\nhandle=1\nkind=sem\ncount=1\nmax=2\nhandle=2\nkind=event\nsignaled=0\nmanual=1\nwaits=1\nwait=1\nmode=all\nowner=7\nclock=mono\ntimeout=18446744073709551615\nalert=0\nn=2\nobj=1\nobj=2\nsum=15010\n"
unfolding lowest_signaled all_signaled look attempt acquire_each any_abandoned dequeue oldest serve try_to_serve member concerned_by walk_queue library_step first_refusal records run refusals change least lowest_empty waits_full enqueue all_occupied has_repeat any_of admits snapshot_text snapshot_body byte_sum object_text objects_text object_count wait_text queue_from joined line digits_up_to
example_snapshot = refl

-- Two histories whose states differ in the place of ticket 2 alone (Alike.antt): ticket 1 is cancelled after 2 is queued, or
-- before.
abbrev pub cancelled_late : List Operation
cancelled_late = create an_event 0 0 ∷ waits any (1 ∷ []) 7 ∷ waits any (1 ∷ []) 7 ∷ cancel 1 ∷ []

abbrev pub cancelled_early : List Operation
cancelled_early = create an_event 0 0 ∷ waits any (1 ∷ []) 7 ∷ cancel 1 ∷ waits any (1 ∷ []) 7 ∷ []

abbrev pub second : WaitPlace
second = waiting (new_wait any (1 ∷ []) 7 0 0 never 2)

abbrev pub one_event : WaitPlace → WaitPlace → State
one_event p q = record {
  objects = event false false ∷ replicate (object_places - 1) empty;
  waits = p ∷ q ∷ replicate (wait_places - 2) free;
  next = 3;
}

pub example_places : (reached cancelled_late ≡ one_event free second) × (reached cancelled_early ≡ one_event second free)
unfolding lowest_signaled all_signaled look attempt acquire_each any_abandoned dequeue oldest serve try_to_serve member concerned_by walk_queue library_step first_refusal records run refusals change least lowest_empty waits_full enqueue all_occupied has_repeat any_of admits end_each
example_places = (refl, refl)
