-- The notions in which the theorems speak of steps and histories.
use Rattle.std.specs.Prelude.{◌≡◌, Bool, true, false, not, ◌||◌, cond, List, [], ◌∷◌, ◌⊎◌, ℕ, ◌≤◌, ◌<◌, length, get_or, eqb}
use Rattle.std.proofs.Math.Option.{some}
use Rattle.model.specs.Basics.{member, number, done, owner_dead, timed_out}
use Rattle.model.specs.Objects.{Object, by_kind, occupied, is_event, acquired}
use Rattle.model.specs.Waits.{Mode, any, all, Wait, WaitPlace, free, waiting, State, object_at, Grant, attempt}
use Rattle.model.specs.Waits.{servable, acquire_each, served_answer, Report}
use Rattle.model.specs.Calls.{Operation, create, close, reset_event, read, signal, wait, expire, cancel, snapshot}
use Rattle.model.specs.Calls.{Kind, a_semaphore, a_mutex, an_event, Signal, post, unlock, kill, set_event, pulse_event}
use Rattle.model.specs.Calls.{Call, least, Refusal, all_occupied, new_wait}

-- "Refusals are 1, 2, 3, 7, 8, 9, 10 and 12."
abbrev pub refusal_numbers : List ℕ
refusal_numbers = 1 ∷ 2 ∷ 3 ∷ 7 ∷ 8 ∷ 9 ∷ 10 ∷ 12 ∷ []

-- of the conditions, in order, the first that holds has number n
abbrev pub FirstIs : ℕ → List Refusal → Type 0
FirstIs n [] = ⊥
FirstIs n (r ∷ rs) = ((r.holds ≡ true) × (r.number ≡ n)) ⊎ ((r.holds ≡ false) × FirstIs n rs)

-- what is lent is long enough
abbrev pub LongEnough : Call → Type 0
LongEnough c = let n = least c.operation in (n.0 ≤ length c.lent.wake) × (n.1 ≤ length c.lent.buffer)

-- "Wrong kind or empty or unknown handle: EINVAL everywhere." The call names an object that is not there, or not of the
-- kind that it is for.
abbrev pub of_kind : Kind → Object → Bool
of_kind a_semaphore x = by_kind x false (λ c m. true) (λ o c a. false) (λ s m. false)
of_kind a_mutex x = by_kind x false (λ c m. false) (λ o c a. true) (λ s m. false)
of_kind an_event x = is_event x

abbrev pub kind_for : Signal → Kind
kind_for (post add) = a_semaphore
kind_for (unlock o) = a_mutex
kind_for (kill o) = a_mutex
kind_for set_event = an_event
kind_for pulse_event = an_event

abbrev pub wrong_object : Operation → List Object → Bool
wrong_object (create k x y) os = false
wrong_object (close h) os = not (occupied (object_at os h))
wrong_object (reset_event h) os = not (is_event (object_at os h))
wrong_object (read k h) os = not (of_kind k (object_at os h))
wrong_object (signal how h) os = not (of_kind (kind_for how) (object_at os h))
wrong_object (wait mode hs o f p a timeout time) os =
    not (all_occupied os hs) || not (eqb a 0 || is_event (object_at os a))
wrong_object (expire c t) os = false
wrong_object (cancel t) os = false
wrong_object snapshot os = false

-- a wait stands in the queue
infix 40 ◌is_in◌
abbrev pub ◌is_in◌ : Wait → List WaitPlace → Type 0
◌is_in◌ w [] = ⊥
◌is_in◌ w (free ∷ ws) = w is_in ws
◌is_in◌ w (waiting v ∷ ws) = (w ≡ v) ⊎ (w is_in ws)

-- no queued wait could be served
abbrev pub Quiet : State → Type 0
Quiet s = (w : Wait) → w is_in s.waits → servable s.objects w ≡ false

-- WHAT A CALL TOUCHES. The handles of the objects that a served wait took, read from its list and its answer's index
abbrev pub taken_listed : Mode → List ℕ → ℕ → List ℕ
taken_listed any hs i = get_or hs i 0 ∷ []
taken_listed all hs i = hs

abbrev pub taken_by : Wait → ℕ → List ℕ
taken_by w i = cond (eqb i (length w.list)) (w.alert ∷ []) (taken_listed w.mode w.list i)

-- the handles of the objects that a call makes, names or takes at once, given its answer and first number
abbrev pub touched : Operation → ℕ → ℕ → List ℕ
touched (create k x y) a h = h ∷ []
touched (close h) a n = h ∷ []
touched (reset_event h) a n = h ∷ []
touched (read k h) a n = []
touched (signal how h) a n = h ∷ []
touched (wait mode hs o f p al timeout time) a i =
    cond (eqb a 0 || eqb a 4) (taken_by (new_wait mode hs o f al timeout 0) i) []
touched (expire c t) a n = []
touched (cancel t) a n = []
touched snapshot a n = []

-- THE REPORTS OF A CALL. Each ticket is above the one before it.
abbrev pub Rising : ℕ → List Report → Type 0
Rising last [] = Unit {0}
Rising last (r ∷ rs) = (last < r.ticket) × Rising r.ticket rs

-- a report of wait w, with the objects before and after: served, by an attempt that succeeded on the objects before and
-- whose grant it took; or ended by time, and nothing taken
abbrev pub Served : Wait → Report → List Object → List Object → Type 0
Served w r os next = (g : Grant) × (attempt os w ≡ some g) × (r.answer ≡ served_answer os g) × (r.index ≡ g.index)
    × (next ≡ acquire_each w.owner os g.handles)

abbrev pub Ended : Wait → Report → List Object → List Object → Type 0
Ended w r os next = (r.answer ≡ number timed_out) × (r.index ≡ 0) × (next ≡ os)

-- one report after another: each of a wait of the queue, on the objects that the one before left, and P holds of it
abbrev pub OneByOne : (Wait → Report → List Object → List Object → Type 0) → List WaitPlace → List Report
    → List Object → List Object → Type 0
OneByOne P ws [] os end = end ≡ os
OneByOne P ws (r ∷ rs) os end = (w : Wait) × (w is_in ws) × (w.ticket ≡ r.ticket)
    × (next : List Object) × P w r os next × OneByOne P ws rs next end

-- ALL OR NONE. The objects of these handles are the acquired ones, and no other object changed.
abbrev pub Took : ℕ → List ℕ → List Object → List Object → Type 0
Took asking hs os next = (h : ℕ)
    → object_at next h ≡ cond (member h hs) (acquired asking (object_at os h)) (object_at os h)

abbrev pub ServedNumber : ℕ → Type 0
ServedNumber a = (a ≡ number done) ⊎ (a ≡ number owner_dead)

-- "A wait for all takes every object or none": the wait with its answer and index, the objects before and after.
pub record AllOrNone (w : Wait) (a i : ℕ) (os next : List Object) : Type 0 where
  -- answered 0 or 4, its index is 0 or the list's length
  pub index : ServedNumber a → (i ≡ 0) ⊎ (i ≡ length w.list)
  -- index 0: every listed object was taken, and no other
  pub every : ServedNumber a → i ≡ 0 → Took w.owner w.list os next
  -- the list's length: the alert was taken and nothing else; the alert is not listed
  pub alone : ServedNumber a → i ≡ length w.list
      → Took w.owner (w.alert ∷ []) os next × (member w.alert w.list ≡ false)
  -- any other answer: nothing was taken
  pub nothing : (ServedNumber a → ⊥) → next ≡ os
