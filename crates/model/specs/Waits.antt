-- Waits, states, attempts, the library's wake walk, and the search of the reference (01: the fresh reckoning).
use Rattle.std.specs.Prelude.{Bool, true, false, ◌&&◌, ◌||◌, cond, List, [], ◌∷◌, ◌++◌, ℕ, zero, suc, length, get_or, set, replicate, eqb, ltb}
use Rattle.std.proofs.Math.Option.{Option, none, some}
use Rattle.model.specs.Sizes.{object_places, wait_places}
use Rattle.model.specs.Basics.{maybe, member, number, done, owner_dead}
use Rattle.model.specs.Objects.{Object, empty, signaled, acquired, abandoned}

pub data Mode : Type 0 where
  any all : Mode

-- "the wait places, each empty or with ticket, mode, owner, clock, timeout, alert and list"
pub record Wait : Type 0 where
  pub ticket : ℕ
  pub mode : Mode
  pub owner : ℕ
  pub clock : ℕ
  pub timeout : ℕ
  pub alert : ℕ
  pub list : List ℕ

pub data WaitPlace : Type 0 where
  free : WaitPlace
  waiting : Wait → WaitPlace

-- "It holds the object places ..; the wait places ..; and the next ticket."
pub record State : Type 0 where
  pub objects : List Object
  pub waits : List WaitPlace
  pub next : ℕ

-- "Newly made tables are empty, next ticket 1."
abbrev pub initial : State
initial = record { objects = replicate object_places empty; waits = replicate wait_places free; next = 1 }

abbrev pub with_objects : State → List Object → State
with_objects s os = record { objects = os; waits = s.waits; next = s.next }

abbrev pub with_waits : State → List WaitPlace → State
with_waits s ws = record { objects = s.objects; waits = ws; next = s.next }

abbrev pub with_next : State → ℕ → State
with_next s n = record { objects = s.objects; waits = s.waits; next = n }

-- Handle h is object place h - 1; "0 is never a handle", and a number that is no handle names an empty place.
abbrev pub object_at : List Object → ℕ → Object
object_at os zero = empty
object_at os (suc i) = get_or os i empty

abbrev pub put_at : List Object → ℕ → Object → List Object
put_at os zero x = os
put_at os (suc i) x = set os i x

abbrev pub put_object : State → ℕ → Object → State
put_object s h x = with_objects s (put_at s.objects h x)

-- What an attempt acquires, and the index that it answers.
pub record Grant : Type 0 where
  pub handles : List ℕ
  pub index : ℕ

-- "Any: takes the lowest index that is signaled (house where objects differ)."
unfoldable pub lowest_signaled : ℕ → List Object → ℕ → List ℕ → Option Grant
lowest_signaled asking os i [] = none
lowest_signaled asking os i (h ∷ hs) = let later = lowest_signaled asking os (suc i) hs in
    cond (signaled asking (object_at os h)) (some record { handles = h ∷ []; index = i }) later

-- "All: takes every one if all are signaled, index 0; the look stops at the first listed object that is not signaled."
unfoldable pub all_signaled : ℕ → List Object → List ℕ → Bool
all_signaled asking os [] = true
all_signaled asking os (h ∷ hs) = signaled asking (object_at os h) && all_signaled asking os hs

unfoldable pub look : Mode → ℕ → List Object → List ℕ → Option Grant
look any asking os hs = lowest_signaled asking os 0 hs
look all asking os hs = cond (all_signaled asking os hs) (some record { handles = hs; index = 0 }) none

-- "Else, if the alert is signaled, the alert is acquired, answer 0, index = list length. The list always comes before
-- the alert."
unfoldable pub attempt : List Object → Wait → Option Grant
attempt os w = maybe (look w.mode w.owner os w.list)
    (cond (signaled w.owner (object_at os w.alert))
    (some record { handles = w.alert ∷ []; index = length w.list }) none)
    (λ g. some g)

-- "A wait can be served if an attempt now would succeed, by list or alert, whatever its timeout"
abbrev pub servable : List Object → Wait → Bool
servable os w = maybe (attempt os w) false (λ g. true)

-- "it takes the objects which that attempt acquires"
unfoldable pub acquire_each : ℕ → List Object → List ℕ → List Object
acquire_each asking os [] = os
acquire_each asking os (h ∷ hs) = acquire_each asking (put_at os h (acquired asking (object_at os h))) hs

unfoldable pub any_abandoned : List Object → List ℕ → Bool
any_abandoned os [] = false
any_abandoned os (h ∷ hs) = abandoned (object_at os h) || any_abandoned os hs

-- "4 EOWNERDEAD: an abandoned mutex was acquired .. acquired all the same", else 0
abbrev pub served_answer : List Object → Grant → ℕ
served_answer os g = cond (any_abandoned os g.handles) (number owner_dead) (number done)

-- The wait with this ticket leaves the queue.
unfoldable pub dequeue : ℕ → List WaitPlace → List WaitPlace
dequeue t [] = []
dequeue t (free ∷ ws) = free ∷ dequeue t ws
dequeue t (waiting w ∷ ws) = cond (eqb w.ticket t) free (waiting w) ∷ dequeue t ws

-- Of the queued waits that pass the test, the one with the lowest ticket.
abbrev pub lower_ticket : Wait → Option Wait → Option Wait
lower_ticket w none = some w
lower_ticket w (some v) = cond (ltb v.ticket w.ticket) (some v) (some w)

unfoldable pub oldest : (Wait → Bool) → List WaitPlace → Option Wait
oldest f [] = none
oldest f (free ∷ ws) = oldest f ws
oldest f (waiting w ∷ ws) = cond (f w) (lower_ticket w (oldest f ws)) (oldest f ws)

abbrev pub any_waiting : (Wait → Bool) → List WaitPlace → Bool
any_waiting f ws = maybe (oldest f ws) false (λ w. true)

-- The handles that a wait's list or alert names; it is concerned if one of the changed objects is among them.
abbrev pub named_by : Wait → List ℕ
named_by w = w.alert ∷ w.list

unfoldable pub concerned_by : List ℕ → Wait → Bool
concerned_by [] w = false
concerned_by (h ∷ hs) w = member h (named_by w) || concerned_by hs w

-- "one record a woken wait (ticket, answer, index)"
pub record Report : Type 0 where
  pub ticket : ℕ
  pub answer : ℕ
  pub index : ℕ

-- What waking leaves: the reports in order, and the state.
pub record Woken : Type 0 where
  pub reports : List Report
  pub state : State

abbrev pub none_woken : State → Woken
none_woken s = record { reports = []; state = s }

abbrev pub and_then : Woken → (State → Woken) → Woken
and_then a f = let b = f a.state in record { reports = a.reports ++ b.reports; state = b.state }

-- "if served it leaves the queue and is reported"
unfoldable pub serve : Wait → Grant → State → Woken
serve w g s = record {
  reports = record { ticket = w.ticket; answer = served_answer s.objects g; index = g.index } ∷ [];
  state = with_waits (with_objects s (acquire_each w.owner s.objects g.handles)) (dequeue w.ticket s.waits);
}

unfoldable pub try_to_serve : Wait → State → Woken
try_to_serve w s = maybe (attempt s.objects w) (none_woken s) (λ g. serve w g s)

-- THE LIBRARY'S WALK. "the queued waits are walked once, lowest ticket first (order house; 001 leaves it open). A wait
-- whose list or alert names the changed object is tried as above, against the objects as they then stand". `last` is
-- the ticket visited last, n the number of visits left.
unfoldable pub walk_queue : ℕ → List ℕ → ℕ → State → Woken
walk_queue zero changed last s = none_woken s
walk_queue (suc n) changed last s = maybe (oldest (λ w. ltb last w.ticket) s.waits) (none_woken s)
    (λ w. and_then (cond (concerned_by changed w) (try_to_serve w s) (none_woken s))
    (λ s'. walk_queue n changed w.ticket s'))

abbrev pub wake_by_walk : List ℕ → State → Woken
wake_by_walk changed s = walk_queue (length s.waits) changed 0 s

-- THE REFERENCE'S SEARCH. "of all queued waits that can be served, the one with the lowest ticket makes its attempt,
-- leaves the queue and is reported; again, until none can"; each turn takes a wait, so n turns are enough for n waits.
unfoldable pub search_queue : ℕ → State → Woken
search_queue zero s = none_woken s
search_queue (suc n) s = maybe (oldest (servable s.objects) s.waits) (none_woken s)
    (λ w. and_then (try_to_serve w s) (λ s'. search_queue n s'))

abbrev pub wake_by_search : List ℕ → State → Woken
wake_by_search changed s = search_queue (length s.waits) s
