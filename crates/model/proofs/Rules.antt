-- Refusals, and what the rules of one object keep.
use mathlib.Core.Path.{◌≡◌, refl, ap, sym, ◌∙◌}
use mathlib.Core.Bool.{Bool, true, false, not, ◌&&◌, ◌||◌, cond}
use mathlib.Core.List.{List, [], ◌∷◌}
use mathlib.Core.Option.{none, some}
use Prim.Native.Nat.{ℕ, zero, suc, pred, ◌+◌, ◌<◌}
use native.Mathlib.Omega.{arith}
use lib.ListN.{get_or}
use lib.Dec.{eqb, ltb, eqb-suc-zero}
use borrow.Author.Tests.{ltb-true, ltb-false, eqb-true, eqb-false, not-false, lt-ltb, le-leb, ne_eqb}
use Rattle.model.specs.Basics.{bit, All}
use Rattle.model.specs.Calls.{Kind, a_semaphore, a_mutex, an_event, Signal, post, unlock, kill, set_event, pulse_event, Call, Refusal, signal_rule, reset_rule, bad_new, new_object, lowest_empty, new_handle, time_up, change}
use Rattle.model.specs.Layout.{valid_object}
use Rattle.model.specs.Sizes.{word32}
use Rattle.model.specs.Objects.{Object, empty, semaphore, mutex, event, occupied, is_event, signaled, never_signaled, cleared}
use Rattle.model.specs.Steps.{Outcome, unaltered, conditions, first_refusal, completed, perform}
use Rattle.model.specs.Waits.{Wait, State, object_at, put_object, Woken}
use Rattle.model.proofs.Logic.{by_bool, by_option, clash, differ, ◌implies◌, or_right, or_split, passed, pass}

-- no refusal of the list holds
abbrev pub Accepted : List Refusal → Type 0
Accepted rs = All (λ r. r.holds ≡ false) rs

pub accepted : (rs : List Refusal) → first_refusal rs ≡ none → Accepted rs
unfolding first_refusal
accepted [] e = tt
accepted (r ∷ rs) e = by_bool r.holds (λ t. differ (let q : some r.number ≡ none = rw t at e in cc)) (λ f. (f, accepted rs (rw f at e)))

-- what a pulse does last; what expire asks of a wait
abbrev pub clear : ℕ → State → State
clear h s = put_object s h (cleared (object_at s.objects h))

abbrev pub due : ℕ → ℕ → Wait → Bool
due clock time w = eqb w.clock clock && time_up w.timeout time

-- a call's outcome, by whether it is refused
pub perform_case : (wake_up : List ℕ → State → Woken) (s : State) (c : Call) (P : Outcome State → Type 0)
    → ((n : ℕ) → first_refusal (conditions c s) ≡ some n → P (unaltered n c.lent s))
    → (Accepted (conditions c s) → P (completed wake_up c.lent (change c.operation s)))
    → P (perform wake_up s c)
perform_case wake_up s c P r a = by_option (first_refusal (conditions c s))
    (λ e. rw e (a (accepted (conditions c s) e)))
    (λ n e. rw e (r n e))

-- what waits and validity ask of an object goes on to hold
pub record Keeps (x y : Object) : Type 0 where
  pub was : occupied x ≡ true
  pub there : occupied y ≡ true
  pub event : is_event x implies is_event y
  pub valid : valid_object x implies valid_object y

post_keeps : (c m add : ℕ) → ltb m (c + add) ≡ false → Keeps (semaphore c m) (semaphore (c + add) m)
post_keeps c m add e = record {
  was = refl;
  there = refl;
  event = λ z. z;
  valid = λ g. let (t0, t1) = passed _ g in pass _ (le-leb (c + add) m (ltb-false m (c + add) e), t1);
}

unlock_keeps : (o c : ℕ) (a : Bool) → (o ≡ 0 → ⊥) → Keeps (mutex o c a) (mutex (cond (eqb c 1) 0 o) (pred c) a)
unlock_keeps o c a z = record {
  was = refl;
  there = refl;
  event = λ e. e;
  valid = λ g. let (t0, (t1, (t2, (t3, t4)))) = passed (ltb o word32 ∷ ltb c word32 ∷ eqb (bit (eqb o 0)) (bit (eqb c 0)) ∷ (not a || eqb o 0) ∷ []) g in
      let no₀ : eqb o 0 ≡ false = ne_eqb o 0 z in
      let l : c < word32 = ltb-true c word32 t1 in
      by_bool (eqb c 1)
      (λ y. let c₁ : c ≡ 1 = eqb-true c 1 y in rw c₁ (pass _ (refl, (refl, (refl, (or_right (not a) true refl, tt))))))
      (λ n. let c₀ : eqb c 0 ≡ false = by_bool (eqb c 0) (λ y. clash (let q : eqb (bit false) (bit true) ≡ true = rw (no₀, y) at t2 in q) refl) (λ f. f) in
      let p₁ : c ≡ 1 → ⊥ = eqb-false c 1 n in let p₀ : c ≡ 0 → ⊥ = eqb-false c 0 c₀ in
      let pc : eqb (pred c) 0 ≡ false = ne_eqb (pred c) 0 (λ e. let w : ⊥ = omega arith in w) in
      rw n (pass _ (t0, (lt-ltb (pred c) word32 (omega arith), (rw (no₀, pc), (t3, tt))))));
}

-- the holder is not owner 0
holder : (asking o : ℕ) → eqb asking 0 ≡ false → not (eqb o asking) ≡ false → o ≡ 0 → ⊥
holder asking o n h z = eqb-false asking 0 n (sym (eqb-true o asking (not-false _ h)) ∙ z)

event_keeps : (v m w : Bool) → Keeps (event v m) (event w m)
event_keeps v m w = record { was = refl; there = refl; event = λ e. e; valid = λ g. g }

pub signal_keeps : (how : Signal) (x : Object) → Accepted (signal_rule how x).refusals → Keeps x (signal_rule how x).next
signal_keeps (post add) empty h = clash refl h.0
signal_keeps (post add) (semaphore c m) h = post_keeps c m add h.0
signal_keeps (post add) (mutex o c a) h = clash refl h.0
signal_keeps (post add) (event v m) h = clash refl h.0
signal_keeps (unlock asking) empty h = clash refl h.0
signal_keeps (unlock asking) (semaphore c m) h = clash refl h.0
signal_keeps (unlock asking) (mutex o c a) h = unlock_keeps o c a (holder asking o h.0 h.1.0)
signal_keeps (unlock asking) (event v m) h = clash refl h.0
signal_keeps (kill asking) empty h = clash refl h.0
signal_keeps (kill asking) (semaphore c m) h = clash refl h.0
signal_keeps (kill asking) (mutex o c a) h = record { was = refl; there = refl; event = λ e. e; valid = λ g. pass _ (refl, (refl, (refl, (refl, tt)))) }
signal_keeps (kill asking) (event v m) h = clash refl h.0
signal_keeps set_event empty h = clash refl h.0
signal_keeps set_event (semaphore c m) h = clash refl h.0
signal_keeps set_event (mutex o c a) h = clash refl h.0
signal_keeps set_event (event v m) h = event_keeps v m true
signal_keeps pulse_event empty h = clash refl h.0
signal_keeps pulse_event (semaphore c m) h = clash refl h.0
signal_keeps pulse_event (mutex o c a) h = clash refl h.0
signal_keeps pulse_event (event v m) h = event_keeps v m true

pub reset_keeps : (x : Object) → Accepted (reset_rule x).refusals → Keeps x (reset_rule x).next
reset_keeps empty h = clash refl h.0
reset_keeps (semaphore c m) h = clash refl h.0
reset_keeps (mutex o c a) h = clash refl h.0
reset_keeps (event v m) h = event_keeps v m false

-- a reset event is signaled for nobody
pub reset_less : (x : Object) (p : ℕ) → Accepted (reset_rule x).refusals → signaled p (reset_rule x).next implies signaled p x
reset_less empty p h = clash refl h.0
reset_less (semaphore c m) p h = clash refl h.0
reset_less (mutex o c a) p h = clash refl h.0
reset_less (event v m) p h = λ e. clash e refl

pub cleared_less : (p : ℕ) (x : Object) → signaled p (cleared x) implies signaled p x
cleared_less p empty e = e
cleared_less p (semaphore c m) e = e
cleared_less p (mutex o c a) e = e
cleared_less p (event v m) e = clash e refl

pub cleared_occupied : (x : Object) → occupied (cleared x) ≡ occupied x
cleared_occupied empty = refl
cleared_occupied (semaphore c m) = refl
cleared_occupied (mutex o c a) = refl
cleared_occupied (event v m) = refl

pub new_occupied : (k : Kind) (x y : ℕ) → occupied (new_object k x y) ≡ true
new_occupied a_semaphore x y = refl
new_occupied a_mutex x y = refl
new_occupied an_event x y = refl

pub new_valid : (k : Kind) (x y : ℕ) → x < word32 → y < word32 → bad_new k x y ≡ false → valid_object (new_object k x y) ≡ true
new_valid a_semaphore c m lx ly e = let r = or_split (ltb m c) (never_signaled m) e in pass _ (le-leb c m (ltb-false m c r.0), (lt-ltb m word32 ly, (ap not r.1, tt)))
new_valid a_mutex o c lx ly e = pass _ (lt-ltb o word32 lx, (lt-ltb c word32 ly, (not-false _ e, (refl, tt))))
new_valid an_event v m lx ly e = refl

-- the lowest empty place is empty, also where there is none, and those below it are occupied
unoccupied : (x : Object) → occupied x ≡ false → x ≡ empty
unoccupied empty n = refl
unoccupied (semaphore c m) n = clash refl n
unoccupied (mutex o c a) n = clash refl n
unoccupied (event v m) n = clash refl n

below_one : (x : Object) (os : List Object) (i : ℕ) → occupied x ≡ true → ((j : ℕ) → j < i → occupied (get_or os j empty) ≡ true)
    → (j : ℕ) → j < suc i → occupied (get_or (x ∷ os) j empty) ≡ true
below_one x os i y f zero l = y
below_one x os i y f (suc j) l = f j (omega arith)

lowest_empty_lem : (h : ℕ) (os : List Object) → (i : ℕ) × (lowest_empty h os ≡ h + i) × (get_or os i empty ≡ empty)
    × ((j : ℕ) → j < i → occupied (get_or os j empty) ≡ true)
unfolding lowest_empty
lowest_empty_lem h [] = (0, omega arith, refl, λ j l. absurd (let z : ⊥ = omega arith in z))
lowest_empty_lem h (x ∷ os) = by_bool (occupied x)
    (λ y. let r = lowest_empty_lem (suc h) os in let q : lowest_empty (suc h) os ≡ suc h + r.0 = r.1 in
    rw y (suc r.0, omega arith, r.2, below_one x os r.0 y r.3))
    (λ n. rw n (0, omega arith, unoccupied x n, λ j l. absurd (let z : ⊥ = omega arith in z)))

-- its handle is one more than its place
pub lowest_place : (os : List Object) → (i : ℕ) × (lowest_empty 1 os ≡ suc i) × (get_or os i empty ≡ empty) × ((j : ℕ) → j < i → occupied (get_or os j empty) ≡ true)
lowest_place os = let r = lowest_empty_lem 1 os in let z : lowest_empty 1 os ≡ 1 + r.0 = r.1 in (r.0, omega arith, r.2, r.3)

pub new_place : (s : State) → (object_at s.objects (new_handle s) ≡ empty) × (eqb (new_handle s) 0 ≡ false)
new_place s = let r = lowest_place s.objects in let i : new_handle s ≡ suc r.0 = r.1 in (rw i r.2, rw i (eqb-suc-zero r.0))
