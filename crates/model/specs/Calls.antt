-- Every call: what it is lent, its refusals in order, and its change without the walk (document 01, "Calls").
use Rattle.std.specs.Prelude.{Bool, true, false, not, ◌&&◌, ◌||◌, cond, List, [], ◌∷◌, ℕ, zero, suc, pred, ◌+◌, ◌<◌, length, eqb, ltb, leb}
use Rattle.model.specs.Sizes.{max_listed, word32, word64, never, tickets_end, wake_length, snapshot_buffer}
use Rattle.model.specs.Basics.{maybe, bit, any_of, has_repeat, All, Answer, number, done, invalid, not_owner}
use Rattle.model.specs.Basics.{overflow, owner_dead, timed_out, interrupted, no_room, tickets_spent, busy, queued}
use Rattle.model.specs.Objects.{Object, empty, semaphore, mutex, event, by_kind, occupied, is_event, never_signaled}
use Rattle.model.specs.Waits.{Mode, any, all, Wait, WaitPlace, free, waiting, State, with_objects, with_waits}
use Rattle.model.specs.Waits.{with_next, object_at, put_object, attempt, servable, acquire_each, served_answer}
use Rattle.model.specs.Waits.{dequeue, oldest, any_waiting, concerned_by, Report, Woken, none_woken, and_then}
use Rattle.model.specs.Snapshot.{snapshot_text}

pub data Kind : Type 0 where
  a_semaphore a_mutex an_event : Kind

-- the calls that change one object and wake: post (the addition), unlock and kill (the owner), set, pulse
pub data Signal : Type 0 where
  post unlock kill : ℕ → Signal
  set_event pulse_event : Signal

-- create: count and maximum; owner and count; signaled and manual
pub data Operation : Type 0 where
  create : Kind → ℕ → ℕ → Operation
  close reset_event : (handle : ℕ) → Operation
  read : Kind → (handle : ℕ) → Operation
  signal : Signal → (handle : ℕ) → Operation
  wait : (mode : Mode) (list : List ℕ) (owner flags pad alert timeout time : ℕ) → Operation
  expire : (clock time : ℕ) → Operation
  cancel : (ticket : ℕ) → Operation
  snapshot : Operation

-- WHAT A CALL IS LENT for writing beside the tables: a wake list's cells, a snapshot buffer's bytes; empty where none.
pub record Lent : Type 0 where
  pub wake : List ℕ
  pub buffer : List ℕ

abbrev pub lend : List ℕ → List ℕ → Lent
lend wake buffer = record { wake = wake; buffer = buffer }

-- the forms that occur: nothing, a wake list, a buffer
abbrev pub nothing_lent : Lent
nothing_lent = lend [] []

abbrev pub wake_lent : List ℕ → Lent
wake_lent cells = lend cells []

abbrev pub buffer_lent : List ℕ → Lent
buffer_lent bytes = lend [] bytes

pub record Call : Type 0 where
  pub operation : Operation
  pub lent : Lent

abbrev pub asks : Operation → Lent → Call
asks op lent = record { operation = op; lent = lent }

-- The least lengths of the two. "Post, unlock, kill, set, pulse and expire take a lent wake list."
unfoldable pub least : Operation → ℕ × ℕ
least (create k x y) = (0, 0)
least (close h) = (0, 0)
least (reset_event h) = (0, 0)
least (read k h) = (0, 0)
least (signal how h) = (wake_length, 0)
least (wait mode hs o f p a timeout time) = (0, 0)
least (expire c t) = (wake_length, 0)
least (cancel t) = (0, 0)
least snapshot = (0, snapshot_buffer)

-- A refusal: a number with its condition. Of a call's, in order, the first that holds is the answer.
pub record Refusal : Type 0 where
  pub number : ℕ
  pub holds : Bool

abbrev pub refusal : Answer → Bool → Refusal
refusal a b = record { number = number a; holds = b }

-- RULES OF ONE OBJECT: refusals, answer and two numbers, the object's next state. "Wrong kind or empty or unknown
-- handle: EINVAL everywhere."
pub record Rule : Type 0 where
  pub refusals : List Refusal
  pub answer : ℕ
  pub first : ℕ
  pub second : ℕ
  pub next : Object

abbrev pub rule : List Refusal → Answer → ℕ → ℕ → Object → Rule
rule rs a x y next = record { refusals = rs; answer = number a; first = x; second = y; next = next }

abbrev pub wrong_kind : Rule
wrong_kind = rule (refusal invalid true ∷ []) done 0 0 empty

abbrev pub on_semaphore : Object → (ℕ → ℕ → Rule) → Rule
on_semaphore x f = by_kind x wrong_kind f (λ o c a. wrong_kind) (λ s m. wrong_kind)

abbrev pub on_mutex : Object → (ℕ → ℕ → Bool → Rule) → Rule
on_mutex x f = by_kind x wrong_kind (λ c m. wrong_kind) f (λ s m. wrong_kind)

abbrev pub on_event : Object → (Bool → Bool → Rule) → Rule
on_event x f = by_kind x wrong_kind (λ c m. wrong_kind) (λ o c a. wrong_kind) f

-- reads: "Read mutex: abandoned answers 4 with zeros."
abbrev pub read_rule : Kind → Object → Rule
read_rule a_semaphore x = on_semaphore x (λ c m. rule [] done c m x)
read_rule a_mutex x = on_mutex x (λ o c a. cond a (rule [] owner_dead 0 0 x) (rule [] done o c x))
read_rule an_event x = on_event x (λ s m. rule [] done (bit s) (bit m) x)

-- "Unlock: EINVAL for owner 0, EPERM for any owner but the holder"; "Kill: same two refusals"
abbrev pub held_by : ℕ → ℕ → List Refusal
held_by asking o = refusal invalid (eqb asking 0) ∷ refusal not_owner (not (eqb o asking)) ∷ []

-- "Post: previous count; EOVERFLOW if count plus addition, as whole numbers, exceeds the maximum. Adding 0 is allowed."
-- Unlock: "previous count; count falls by one, owner 0 at zero". Kill: "mutex becomes unowned, count 0, abandoned".
-- "Set, reset, pulse: previous state. Pulse sets, wakes, then clears" (`clears_after`).
abbrev pub signal_rule : Signal → Object → Rule
signal_rule (post add) x = on_semaphore x
    (λ c m. rule (refusal overflow (ltb m (c + add)) ∷ []) done c 0 (semaphore (c + add) m))
signal_rule (unlock asking) x = on_mutex x
    (λ o c a. rule (held_by asking o) done c 0 (mutex (cond (eqb c 1) 0 o) (pred c) a))
signal_rule (kill asking) x = on_mutex x (λ o c a. rule (held_by asking o) done 0 0 (mutex 0 0 true))
signal_rule set_event x = on_event x (λ s m. rule [] done (bit s) 0 (event true m))
signal_rule pulse_event x = on_event x (λ s m. rule [] done (bit s) 0 (event true m))

abbrev pub reset_rule : Object → Rule
reset_rule x = on_event x (λ s m. rule [] done (bit s) 0 (event false m))

-- the event to clear after the waking, 0 for none
abbrev pub clears_after : Signal → ℕ → ℕ
clears_after (post add) h = 0
clears_after (unlock o) h = 0
clears_after (kill o) h = 0
clears_after set_event h = 0
clears_after pulse_event h = h

-- CREATING. "Create: EINVAL if count exceeds maximum" (4/13: or if that is 0); "for a mutex if exactly one of owner and
-- count is 0. Event flags: nonzero means 1."
abbrev pub bad_new : Kind → ℕ → ℕ → Bool
bad_new a_semaphore c m = ltb m c || never_signaled m
bad_new a_mutex o c = not (eqb (bit (eqb o 0)) (bit (eqb c 0)))
bad_new an_event s m = false

abbrev pub new_object : Kind → ℕ → ℕ → Object
new_object a_semaphore c m = semaphore c m
new_object a_mutex o c = mutex o c false
new_object an_event s m = event (not (eqb s 0)) (not (eqb m 0))

-- "Creating takes the lowest empty object place": its handle, one past the last place where there is none.
unfoldable pub lowest_empty : ℕ → List Object → ℕ
lowest_empty h [] = h
lowest_empty h (x ∷ os) = let later = lowest_empty (suc h) os in cond (occupied x) later h

abbrev pub new_handle : State → ℕ
new_handle s = lowest_empty 1 s.objects

-- A WAIT'S ARGUMENTS. "EINVAL for a bad list or handle, owner 0 (even without a mutex in the list), an unknown flag
-- (only flag 1, real-time clock, is known; number house), nonzero pad, an alert that isn't 0 or an event; for all, a
-- repeated handle, the alert counted." "1 to 64 handles in a wait's list (.. refusing an empty list is house)"; but
-- (1/13) "From now on a wait for any may have no objects: it can be served by its alert, end by time, or be cancelled.
-- A wait for all over nothing stays EINVAL (house)."
abbrev pub list_too_short : Mode → List ℕ → Bool
list_too_short any hs = false
list_too_short all hs = eqb (length hs) 0

unfoldable pub all_occupied : List Object → List ℕ → Bool
all_occupied os [] = true
all_occupied os (h ∷ hs) = occupied (object_at os h) && all_occupied os hs

abbrev pub repeats : Mode → List ℕ → Bool
repeats any hs = false
repeats all hs = has_repeat hs

abbrev pub wait_faults : Mode → List ℕ → ℕ → ℕ → ℕ → ℕ → List Object → List Bool
wait_faults mode hs asking flags pad alert os =
    list_too_short mode hs ∷ ltb max_listed (length hs) ∷ not (all_occupied os hs) ∷ eqb asking 0 ∷ ltb 1 flags
    ∷ not (eqb pad 0) ∷ not (eqb alert 0 || is_event (object_at os alert)) ∷ repeats mode (alert ∷ hs) ∷ []

-- "timeout at or before the given time of the wait's clock means 5. 2^64-1 means never, whatever the time."
abbrev pub time_up : ℕ → ℕ → Bool
time_up timeout time = leb timeout time && not (eqb timeout never)

abbrev pub new_wait : Mode → List ℕ → ℕ → ℕ → ℕ → ℕ → ℕ → Wait
new_wait mode hs asking flags alert timeout ticket =
    record { ticket = ticket; mode = mode; owner = asking; clock = flags; timeout = timeout; alert = alert; list = hs }

-- not served and not timed out: it has to be queued
abbrev pub must_queue : Wait → ℕ → State → Bool
must_queue w time s = not (servable s.objects w) && not (time_up w.timeout time)

-- "queuing [takes] the lowest empty wait place"
unfoldable pub waits_full : List WaitPlace → Bool
waits_full [] = true
waits_full (free ∷ ws) = false
waits_full (waiting w ∷ ws) = waits_full ws

unfoldable pub enqueue : Wait → List WaitPlace → List WaitPlace
enqueue w [] = []
enqueue w (free ∷ ws) = waiting w ∷ ws
enqueue w (waiting v ∷ ws) = waiting v ∷ enqueue w ws

-- THE REFUSALS OF A CALL. "Order: 9, 12" (Steps.antt) ", 1, then 2, 3, 7, 10." "A wait comes after 1 to: served (0 or
-- 4), 5, 7, 8, 11, in that order; so a full queue doesn't refuse a wait that can be served at once." "given a clock (0
-- monotonic, 1 real-time, else EINVAL)"; "Cancel: EINVAL if no queued wait has that ticket"
unfoldable pub refusals : Operation → State → List Refusal
refusals (create k x y) s =
    refusal invalid (bad_new k x y) ∷ refusal no_room (ltb (length s.objects) (new_handle s)) ∷ []
refusals (close h) s = refusal invalid (not (occupied (object_at s.objects h)))
    ∷ refusal busy (any_waiting (concerned_by (h ∷ [])) s.waits) ∷ []
refusals (reset_event h) s = (reset_rule (object_at s.objects h)).refusals
refusals (read k h) s = (read_rule k (object_at s.objects h)).refusals
refusals (signal how h) s = (signal_rule how (object_at s.objects h)).refusals
refusals (wait mode hs o f p a timeout time) s =
    let must = must_queue (new_wait mode hs o f a timeout s.next) time s in
    refusal invalid (any_of (wait_faults mode hs o f p a s.objects))
    ∷ refusal no_room (must && waits_full s.waits) ∷ refusal tickets_spent (must && eqb s.next tickets_end) ∷ []
refusals (expire clock time) s = refusal invalid (ltb 1 clock) ∷ []
refusals (cancel ticket) s = refusal invalid (not (any_waiting (λ w. eqb w.ticket ticket) s.waits)) ∷ []
refusals snapshot s = []

-- THE CHANGE of a call that is not refused (01: the bare change, "the call's rule with its answer and numbers, without
-- its walk"): its own reports, bytes for a buffer, the objects whose change wakes, the event to clear last (0: none).
pub record Change : Type 0 where
  pub answer : ℕ
  pub first : ℕ
  pub second : ℕ
  pub reports : List Report
  pub text : List ℕ
  pub state : State
  pub changed : List ℕ
  pub clears : ℕ

-- answer, two numbers, state; with reports and text; with what wakes
abbrev pub answers : ℕ → ℕ → ℕ → State → Change
answers a x y s = record {
  answer = a;
  first = x;
  second = y;
  reports = [];
  text = [];
  state = s;
  changed = [];
  clears = 0;
}

abbrev pub writes : ℕ → List Report → List ℕ → State → Change
writes x rs text s = record {
  answer = number done;
  first = x;
  second = 0;
  reports = rs;
  text = text;
  state = s;
  changed = [];
  clears = 0;
}

abbrev pub wakes : Rule → ℕ → ℕ → State → Change
wakes r h k s = record {
  answer = r.answer;
  first = r.first;
  second = r.second;
  reports = [];
  text = [];
  state = put_object s h r.next;
  changed = h ∷ [];
  clears = k;
}

-- a wait served (its index), timed out, or queued (its ticket): "A queued wait takes the next ticket, which then rises
-- by one; nothing else spends one."
unfoldable pub admits : Wait → ℕ → State → Change
admits w time s = maybe (attempt s.objects w)
    (cond (time_up w.timeout time) (answers (number timed_out) 0 0 s)
    (answers (number queued) 0 s.next (with_next (with_waits s (enqueue w s.waits)) (suc s.next))))
    (λ g. answers (served_answer s.objects g) g.index 0
    (with_objects s (acquire_each w.owner s.objects g.handles)))

-- "Expire .. ends with 5, index 0, by ticket, every wait on that clock with timeout at or before that time, but not
-- 2^64-1."
abbrev pub ends : Wait → State → Woken
ends w s = record {
  reports = record { ticket = w.ticket; answer = number timed_out; index = 0 } ∷ [];
  state = with_waits s (dequeue w.ticket s.waits);
}

unfoldable pub end_each : ℕ → (Wait → Bool) → State → Woken
end_each zero f s = none_woken s
end_each (suc n) f s = maybe (oldest f s.waits) (none_woken s) (λ w. and_then (ends w s) (λ s'. end_each n f s'))

-- create hands back the new handle, snapshot the text's length
unfoldable pub change : Operation → State → Change
change (create k x y) s = answers (number done) (new_handle s) 0 (put_object s (new_handle s) (new_object k x y))
change (close h) s = answers (number done) 0 0 (put_object s h empty)
change (reset_event h) s = let r = reset_rule (object_at s.objects h) in
    answers r.answer r.first r.second (put_object s h r.next)
change (read k h) s = let r = read_rule k (object_at s.objects h) in answers r.answer r.first r.second s
change (signal how h) s = wakes (signal_rule how (object_at s.objects h)) h (clears_after how h) s
change (wait mode hs o f p a timeout time) s = admits (new_wait mode hs o f a timeout s.next) time s
change (expire clock time) s =
    let e = end_each (length s.waits) (λ w. eqb w.clock clock && time_up w.timeout time) s in
    writes 0 e.reports [] e.state
change (cancel ticket) s = answers (number interrupted) 0 0 (with_waits s (dequeue ticket s.waits))
change snapshot s = writes (length (snapshot_text s)) [] (snapshot_text s) s

-- EACH NUMBER IS WITHIN ITS PARAMETER'S WIDTH: the numbers of 32 bits and those of 64 (times and tickets).
abbrev pub numbers : Operation → List ℕ × List ℕ
numbers (create k x y) = (x ∷ y ∷ [], [])
numbers (close h) = (h ∷ [], [])
numbers (reset_event h) = (h ∷ [], [])
numbers (read k h) = (h ∷ [], [])
numbers (signal (post add) h) = (h ∷ add ∷ [], [])
numbers (signal (unlock o) h) = (h ∷ o ∷ [], [])
numbers (signal (kill o) h) = (h ∷ o ∷ [], [])
numbers (signal set_event h) = (h ∷ [], [])
numbers (signal pulse_event h) = (h ∷ [], [])
numbers (wait mode hs o f p a timeout time) = (o ∷ f ∷ p ∷ a ∷ hs, timeout ∷ time ∷ [])
numbers (expire c t) = (c ∷ [], t ∷ [])
numbers (cancel t) = ([], t ∷ [])
numbers snapshot = ([], [])

abbrev pub WithinWidths : Call → Type 0
WithinWidths c =
    All (λ n. n < word32) (numbers c.operation).0 × All (λ n. n < word64) (numbers c.operation).1
