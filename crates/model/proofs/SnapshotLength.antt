-- How long a snapshot can be: a bound over all valid states, a valid state that reaches it, and room for it in the
-- snapshot buffer.
use mathlib.Core.Path.{◌≡◌, refl}
use mathlib.Core.Bool.{Bool, true, false, not}
use mathlib.Core.List.{List, [], ◌∷◌, ◌++◌}
use mathlib.Core.Logic.{◌⊎◌, inl, inr, ⊎_elim}
use Prim.Native.Nat.{ℕ, zero, suc, ◌+◌, ◌-◌, ◌*◌, ◌%◌, ◌^◌, ◌≤◌, ◌<◌}
use Prim.Native.String.{String}
use native.Mathlib.Omega.{arith}
use native.Mathlib.Nat.{le_refl, le_trans, suc-mul, mod-le}
use lib.ListN.{length, get_or, replicate, length-append}
use lib.Dec.{eqb, ltb, lit≤}
use borrow.Author.Tests.{ltb-true, ltb-false, leb-true, eqb-true, eqb-false, not-true, not-false}
use Rattle.model.specs.Basics.{bit, all_of, tabulate, joined}
use Rattle.model.specs.Calls.{all_occupied}
use Rattle.model.specs.Snapshot.{ascii, digits_up_to, line, object_text, objects_text, object_count, mode_text, clock_text, wait_text, queue_from, snapshot_body, byte_sum, snapshot_text}
use Rattle.model.specs.Layout.{valid_object, valid_wait, distinct_tickets}
use Rattle.model.specs.Sizes.{object_places, wait_places, max_listed, word32, word64, mutex_ceiling, never, snapshot_buffer, longest_snapshot}
use Rattle.model.specs.Objects.{Object, empty, semaphore, mutex, event, occupied, is_event}
use Rattle.model.specs.Notions.{◌is_in◌}
use Rattle.model.specs.Waits.{Mode, any, all, Wait, WaitPlace, waiting, State, object_at, oldest}
use Rattle.model.proofs.Digits.{digits, digits_bound, digits_u32, digits_u64}
use Rattle.model.proofs.Logic.{by_bool, by_option, clash, and_split, passed}
use Rattle.model.proofs.Validity.{test_valid}
use Rattle.model.proofs.SnapshotSum.{body_light}
use Rattle.model.proofs.Valid.{Valid, AllValid, in_places, event_occupied}
use Rattle.model.proofs.Queue.{oldest_none, oldest_some}

-- a text of at most a bytes, a number of at most d digits
record Most (x : List ℕ) (a : ℕ) : Type 0 where
  most : length x ≤ a

record Short (n d : ℕ) : Type 0 where
  short : length (digits n) ≤ d

then_most : {x y : List ℕ} {a b : ℕ} → Most x a → Most y b → Most (x ++ y) (a + b)
then_most {x} {y} {a} {b} p q = let l = length-append x y in let u = p.most in let v = q.most in record { most = omega arith }

more_most : {x : List ℕ} {a b : ℕ} → Most x a → a ≤ b → Most x b
more_most {x} {a} {b} p h = let u = p.most in record { most = omega arith }

exact : (x : List ℕ) → Most x (length x)
exact x = record { most = le_refl _ }

line_most : (key : String) {n d : ℕ} → Short n d → Most (line key n) (length (ascii key) + (d + 1))
unfolding line
line_most key {n} {d} s = then_most (exact (ascii key)) (then_most {x = digits n} (record { most = s.short }) (exact (10 ∷ [])))

below : (k : ℕ) {n : ℕ} → n < 10 ^ suc k → Short n (suc k)
below k {n} h = record { short = digits_bound 19 k n h }

short32 : {n : ℕ} → n < word32 → Short n 10
short32 {n} h = record { short = digits_u32 n h }

short64 : {n : ℕ} → n < word64 → Short n 20
short64 {n} h = record { short = digits_u64 n h }

short_flag : (b : Bool) → Short (bit b) 1
unfolding digits_up_to
short_flag true = record { short = le_refl 1 }
short_flag false = record { short = le_refl 1 }

itself : (n : ℕ) → Short n (length (digits n))
itself n = record { short = le_refl _ }

-- a handle has at most three digits
handle_short : {h : ℕ} → h ≤ object_places → Short h 3
handle_short {h} l = below 2 (let e : 10 ^ 3 ≡ 1000 = refl in omega arith)

-- OBJECTS: a mutex is the longest, an event 26 bytes shorter
event_most : (h : ℕ) (s m : Bool) → Most (object_text h (event s m)) (length (digits h) + 39)
unfolding object_text
event_most h s m = more_most (then_most (line_most "handle=" (itself h)) (then_most (exact (ascii "kind=event\n")) (then_most (line_most "signaled=" (short_flag s)) (line_most "manual=" (short_flag m))))) (omega arith)

object_most : (h : ℕ) (x : Object) → valid_object x ≡ true → Most (object_text h x) (length (digits h) + 65)
unfolding object_text
object_most h empty e = record { most = omega arith }
object_most h (semaphore c m) e = let (t0, (t1, t2)) = passed _ e in let l = leb-true c m t0 in let b = ltb-true m word32 t1 in
    more_most (then_most (line_most "handle=" (itself h)) (then_most (exact (ascii "kind=sem\n")) (then_most (line_most "count=" (short32 (omega arith))) (line_most "max=" (short32 b))))) (omega arith)
object_most h (mutex o c a) e = let (t0, (t1, t2)) = passed _ e in
    more_most (then_most (line_most "handle=" (itself h)) (then_most (exact (ascii "kind=mutex\n")) (then_most (line_most "owner=" (short32 (ltb-true _ _ t0)))
    (then_most (line_most "count=" (short32 (ltb-true _ _ t1))) (line_most "abandoned=" (short_flag a)))))) (omega arith)
object_most h (event s m) e = more_most (event_most h s m) (omega arith)

-- the digits of n handles from h on
unfoldable handle_digits : ℕ → ℕ → ℕ
handle_digits h zero = 0
handle_digits h (suc n) = length (digits h) + handle_digits (suc h) n

objects_most : (xs : List Object) (h : ℕ) → ((i : ℕ) → valid_object (get_or xs i empty) ≡ true) → Most (objects_text h xs) (handle_digits h (length xs) + 65 * length xs)
unfolding objects_text handle_digits
objects_most [] h g = record { most = omega arith }
objects_most (x ∷ xs) h g = more_most (then_most (object_most h x (g 0)) (objects_most xs (suc h) (λ i. g (suc i)))) (omega arith)

-- one of them is an event
objects_event : (xs : List Object) (h i : ℕ) → ((i : ℕ) → valid_object (get_or xs i empty) ≡ true) → is_event (get_or xs i empty) ≡ true
    → Most (objects_text h xs) (handle_digits h (length xs) + 65 * length xs - 26)
unfolding objects_text handle_digits
objects_event [] h i g e = clash e refl
objects_event (empty ∷ xs) h zero g e = clash e refl
objects_event (semaphore c m ∷ xs) h zero g e = clash e refl
objects_event (mutex o c a ∷ xs) h zero g e = clash e refl
objects_event (event s m ∷ xs) h zero g e = more_most (then_most (event_most h s m) (objects_most xs (suc h) (λ i. g (suc i)))) (omega arith)
objects_event (x ∷ xs) h (suc i) g e = more_most (then_most (object_most h x (g 0)) (objects_event xs (suc h) i (λ j. g (suc j)) e))
    (let l : suc i ≤ length xs = (in_places xs (suc i) (event_occupied (get_or xs i empty) e)).1 in omega arith)

alert_event : (os : List Object) (a : ℕ) → AllValid os → is_event (object_at os a) ≡ true → Most (objects_text 1 os) (handle_digits 1 (length os) + 65 * length os - 26)
alert_event os zero g e = clash e refl
alert_event os (suc i) g e = objects_event os 1 i (λ j. g (suc j)) e

count_most : (xs : List Object) → object_count xs ≤ length xs
unfolding object_count
count_most [] = omega arith
count_most (x ∷ xs) = let l = count_most xs in by_bool (occupied x) (λ t. rw t (omega arith)) (λ f. rw f (omega arith))

-- WAITS
list_most : (os : List Object) (hs : List ℕ) → length os ≡ object_places → all_occupied os hs ≡ true → Most (joined (line "obj=") hs) (8 * length hs)
unfolding joined all_occupied
list_most os [] p e = record { most = omega arith }
list_most os (h ∷ hs) p e = let (a, b) = and_split (occupied (object_at os h)) (all_occupied os hs) e in let l : h ≤ length os = (in_places os h a).1 in
    more_most (then_most (line_most "obj=" (handle_short {h = h} (omega arith))) (list_most os hs p b)) (omega arith)

mode_most : (m : Mode) → Most (mode_text m) 9
mode_most any = exact (ascii "mode=any\n")
mode_most all = exact (ascii "mode=all\n")

clock_most : (c : ℕ) → Most (clock_text c) 11
clock_most zero = exact (ascii "clock=mono\n")
clock_most (suc c) = exact (ascii "clock=real\n")

-- the longest wait whose alert has d digits
abbrev long_wait : ℕ → ℕ
long_wait d = 104 + 8 * max_listed + d

wait_most : (os : List Object) (w : Wait) (d : ℕ) → length os ≡ object_places → valid_wait os w ≡ true → w.ticket < word64 → Short w.alert d → Most (wait_text w) (long_wait d)
unfolding wait_text
wait_most os w d p g k s = let (t0, (t1, (t2, (t3, (t4, (t5, (t6, t7))))))) = passed _ g in
    let n : length w.list ≤ max_listed = ltb-false max_listed (length w.list) (not-true _ t5) in
    let e : 10 ^ 2 ≡ 100 = refl in
    more_most (then_most (line_most "wait=" (short64 k)) (then_most (mode_most w.mode) (then_most (line_most "owner=" (short32 (ltb-true _ _ t1)))
    (then_most (clock_most w.clock) (then_most (line_most "timeout=" (short64 (ltb-true _ _ t3))) (then_most (line_most "alert=" s)
    (then_most (line_most "n=" (below 1 {n = length w.list} (omega arith))) (list_most os w.list p t6))))))))
    (omega arith)

alert_case : (os : List Object) (w : Wait) → valid_wait os w ≡ true → (w.alert ≡ 0) ⊎ (is_event (object_at os w.alert) ≡ true)
alert_case os w g = let (t0, (t1, (t2, (t3, (t4, (t5, (t6, (t7, t8)))))))) = passed _ g in
    by_bool (eqb w.alert 0) (λ t. inl (eqb-true w.alert 0 t)) (λ f. inr (rw f at t7))

alert_short : (os : List Object) (w : Wait) → length os ≡ object_places → valid_wait os w ≡ true → Short w.alert 3
alert_short os w p g = ⊎_elim (λ (z : w.alert ≡ 0). handle_short (omega arith))
    (λ e. let l : w.alert ≤ length os = (in_places os w.alert (event_occupied (object_at os w.alert) e)).1 in handle_short (omega arith)) (alert_case os w g)

queue_most : (n last : ℕ) (ws : List WaitPlace) (b : ℕ) → ((w : Wait) → w is_in ws → Most (wait_text w) b) → Most (joined wait_text (queue_from n last ws)) (n * b)
unfolding queue_from joined
queue_most zero last ws b h = record { most = omega arith }
queue_most (suc n) last ws b h = by_option (oldest (λ w. ltb last w.ticket) ws)
    (λ e. rw e (record { most = omega arith }))
    (λ w e. rw e (more_most (then_most (h w (oldest_some (λ w. ltb last w.ticket) ws w e).stands) (queue_most n w.ticket ws b h)) (let m = suc-mul n b in omega arith)))

queue_length : (n last : ℕ) (ws : List WaitPlace) → length (queue_from n last ws) ≤ n
unfolding queue_from
queue_length zero last ws = omega arith
queue_length (suc n) last ws = by_option (oldest (λ w. ltb last w.ticket) ws)
    (λ e. rw e (omega arith))
    (λ w e. rw e (let l = queue_length n w.ticket ws in omega arith))

-- THE WHOLE: objects of at most o bytes, waits of at most b each, and 47 bytes of the three other lines
whole_most : (s : State) (o b : ℕ) → Valid s → Most (objects_text 1 s.objects) o → ((w : Wait) → w is_in s.waits → Most (wait_text w) b) → Most (snapshot_body s) (47 + o + wait_places * b)
unfolding snapshot_body
whole_most s o b g os ws =
    let p = g.places in let q = g.slots in let c = count_most s.objects in let l = queue_length (length s.waits) 0 s.waits in
    let e : 10 ^ 2 ≡ 100 = refl in
    more_most (then_most (line_most "next=" (short64 g.bounded)) (then_most (line_most "objects=" (handle_short {h = object_count s.objects} (omega arith)))
    (then_most os (then_most (line_most "waits=" (below 1 {n = length (queue_from (length s.waits) 0 s.waits)} (omega arith))) (queue_most (length s.waits) 0 s.waits b ws)))))
    (rw q (omega arith))

-- what the line of the sum leaves
abbrev longest_body : ℕ
longest_body = longest_snapshot - 12

-- all objects mutexes, no alert
no_alert_fits : 47 + (handle_digits 1 object_places + 65 * object_places) + wait_places * long_wait 1 ≤ longest_body
unfolding handle_digits digits_up_to
no_alert_fits = lit≤ tt

-- one of them an event, the alert of every wait
alert_fits : 47 + (handle_digits 1 object_places + 65 * object_places - 26) + wait_places * long_wait 3 ≤ longest_body
unfolding handle_digits digits_up_to
alert_fits = lit≤ tt

-- No snapshot of a valid state is longer. With an alert there is an event, 26 bytes shorter than a mutex; without, every
-- wait is 2 bytes shorter.
body_longest : (s : State) → Valid s → length (snapshot_body s) ≤ longest_body
body_longest s g = let p = g.places in
    let ticket : (w : Wait) → w is_in s.waits → w.ticket < word64 = λ w m. (let (a, b) = g.tickets w m in let u = g.bounded in omega arith) in
    let alerted : Wait → Bool = λ w. not (eqb w.alert 0) in
    by_option (oldest alerted s.waits)
    (λ n. let unalerted : (w : Wait) → w is_in s.waits → Short w.alert 1 = λ w m. (let z = eqb-true w.alert 0 (not-false _ (oldest_none alerted s.waits n w m)) in rw z (short_flag false)) in
    let k = whole_most s _ (long_wait 1) g (objects_most s.objects 1 (λ i. g.objects (suc i))) (λ w m. wait_most s.objects w 1 p (g.waits w m) (ticket w m) (unalerted w m)) in
    le_trans (rw p at k.most) no_alert_fits)
    (λ v e. let z = oldest_some alerted s.waits v e in
    let a : is_event (object_at s.objects v.alert) ≡ true = ⊎_elim (λ (c : v.alert ≡ 0). absurd (eqb-false v.alert 0 (not-true _ z.passes) c)) (λ y. y) (alert_case s.objects v (g.waits v z.stands)) in
    let k = whole_most s _ (long_wait 3) g (alert_event s.objects v.alert g.objects a) (λ w m. wait_most s.objects w 3 p (g.waits w m) (ticket w m) (alert_short s.objects w p (g.waits w m))) in
    le_trans (rw p at k.most) alert_fits)

-- the sum of so many bytes has at most seven digits
pub snapshot_longest : (s : State) → Valid s → length (snapshot_text s) ≤ longest_snapshot
unfolding snapshot_text
snapshot_longest s g = let b = body_longest s g in let l = (body_light s).light in let e : 10 ^ 7 ≡ 10000000 = refl in let m = mod-le (byte_sum (snapshot_body s)) word32 in
    (more_most {b = longest_snapshot} (then_most {x = snapshot_body s} (record { most = b }) (line_most "sum=" {n = byte_sum (snapshot_body s) % word32} (below 6 (omega arith)))) (lit≤ tt)).most

pub snapshot_fits : (s : State) → Valid s → length (snapshot_text s) ≤ snapshot_buffer
snapshot_fits s g = le_trans (snapshot_longest s g) (lit≤ tt)

-- A VALID STATE OF THE LONGEST SNAPSHOT: full mutexes, an unset event of the last handle, waits for any of it as often as
-- a list can have it, alerted by it.
abbrev late_wait : ℕ → WaitPlace
late_wait k = waiting record {
  ticket = never - suc k;
  mode = any;
  owner = mutex_ceiling;
  clock = 0;
  timeout = never;
  alert = object_places;
  list = replicate max_listed object_places;
}

abbrev pub longest : State
longest = record { objects = replicate (object_places - 1) (mutex mutex_ceiling mutex_ceiling false) ++ (event false false ∷ []); waits = tabulate wait_places late_wait; next = never }

pub longest_length : length (snapshot_text longest) ≡ longest_snapshot
unfolding snapshot_text snapshot_body byte_sum object_text objects_text object_count wait_text joined tabulate queue_from line digits_up_to oldest
longest_length = refl

pub longest_valid : Valid longest
unfolding all_of all_occupied distinct_tickets oldest tabulate
longest_valid = test_valid longest refl
