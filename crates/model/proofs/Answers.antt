-- Which answers there are: refusals alter nothing, every other answer is 0, 4, 5, 6 or 11, and 5 and 6 touch no object.
use mathlib.Core.Path.{◌≡◌, refl, ap, ◌∙◌}
use mathlib.Core.Bool.{Bool, true, false, not, ◌||◌, cond}
use mathlib.Core.List.{List, [], ◌∷◌}
use mathlib.Core.Option.{some}
use mathlib.Core.Logic.{inl, inr, ◌↔◌}
use Prim.Native.Nat.{ℕ, zero, suc, ◌≤◌}
use native.Mathlib.Omega.{arith}
use lib.ListN.{length}
use lib.Dec.{eqb, ltb}
use borrow.Author.Tests.{ltb-false, le-ltb, eqb-true, eqb-false}
use Rattle.model.specs.Basics.{done, owner_dead, any_of, member, All}
use Rattle.model.specs.Calls.{end_each, least, list_too_short, all_occupied, repeats, Kind, a_semaphore, a_mutex}
use Rattle.model.specs.Calls.{an_event, Signal, post, unlock, kill, set_event}
use Rattle.model.specs.Calls.{pulse_event, Operation, create, close, reset_event, read, signal, wait, expire}
use Rattle.model.specs.Calls.{cancel, snapshot, Call, Refusal, Rule, rule, wrong_kind, on_semaphore, on_mutex}
use Rattle.model.specs.Calls.{on_event, read_rule, signal_rule, time_up, new_wait, refusals, Change, admits, change}
use Rattle.model.specs.Objects.{Object, empty, semaphore, mutex, event, is_event}
use Rattle.model.specs.Steps.{unaltered, conditions, first_refusal, perform, library_step}
use Rattle.model.specs.Notions.{refusal_numbers, FirstIs, LongEnough, of_kind, kind_for, wrong_object}
use Rattle.model.specs.Sizes.{max_listed}
use Rattle.model.specs.Waits.{Wait, State, with_waits, object_at, attempt, any_abandoned, dequeue, oldest, Woken}
use Rattle.model.specs.Waits.{wake_by_walk}
use Rattle.model.proofs.Waking.{walk_keeps, walk_nothing}
use Rattle.model.proofs.Logic.{by_bool, by_option, clash, differ, not_true, or_right}
use Rattle.model.proofs.Rules.{due, perform_case}

-- a property of the rules of one object, whatever it is
module _ (P : Rule → Type 0) (wrong : P wrong_kind) where
  on_semaphore_lem : (x : Object) (f : ℕ → ℕ → Rule) → ((c m : ℕ) → P (f c m)) → P (on_semaphore x f)
  on_semaphore_lem empty f h = wrong
  on_semaphore_lem (semaphore c m) f h = h c m
  on_semaphore_lem (mutex o c a) f h = wrong
  on_semaphore_lem (event s m) f h = wrong

  on_mutex_lem : (x : Object) (f : ℕ → ℕ → Bool → Rule) → ((o c : ℕ) (a : Bool) → P (f o c a)) → P (on_mutex x f)
  on_mutex_lem empty f h = wrong
  on_mutex_lem (semaphore c m) f h = wrong
  on_mutex_lem (mutex o c a) f h = h o c a
  on_mutex_lem (event s m) f h = wrong

  on_event_lem : (x : Object) (f : Bool → Bool → Rule) → ((s m : Bool) → P (f s m)) → P (on_event x f)
  on_event_lem empty f h = wrong
  on_event_lem (semaphore c m) f h = wrong
  on_event_lem (mutex o c a) f h = wrong
  on_event_lem (event s m) f h = h s m

-- REFUSALS of a call have the numbers of refusals, less 9
abbrev call_numbers : List ℕ
call_numbers = 1 ∷ 2 ∷ 3 ∷ 7 ∷ 8 ∷ 10 ∷ 12 ∷ []

abbrev Numbered : List Refusal → Type 0
Numbered rs = All (λ r. member r.number call_numbers ≡ true) rs

signal_numbered : (how : Signal) (x : Object) → Numbered (signal_rule how x).refusals
unfolding member
signal_numbered (post add) x = on_semaphore_lem (λ r. Numbered r.refusals) (refl, tt) x _ (λ c m. (refl, tt))
signal_numbered (unlock o) x = on_mutex_lem (λ r. Numbered r.refusals) (refl, tt) x _ (λ h c a. (refl, (refl, tt)))
signal_numbered (kill o) x = on_mutex_lem (λ r. Numbered r.refusals) (refl, tt) x _ (λ h c a. (refl, (refl, tt)))
signal_numbered set_event x = on_event_lem (λ r. Numbered r.refusals) (refl, tt) x _ (λ s m. tt)
signal_numbered pulse_event x = on_event_lem (λ r. Numbered r.refusals) (refl, tt) x _ (λ s m. tt)

read_mutex : (P : Rule → Type 0) (x : Object) (o c : ℕ) (a : Bool) → P (rule [] owner_dead 0 0 x) → P (rule [] done o c x) → P (cond a (rule [] owner_dead 0 0 x) (rule [] done o c x))
read_mutex P x o c true p q = p
read_mutex P x o c false p q = q

read_numbered : (k : Kind) (x : Object) → Numbered (read_rule k x).refusals
unfolding member
read_numbered a_semaphore x = on_semaphore_lem (λ r. Numbered r.refusals) (refl, tt) x _ (λ c m. tt)
read_numbered a_mutex x = on_mutex_lem (λ r. Numbered r.refusals) (refl, tt) x _ (λ o c a. read_mutex (λ r. Numbered r.refusals) x o c a tt tt)
read_numbered an_event x = on_event_lem (λ r. Numbered r.refusals) (refl, tt) x _ (λ s m. tt)

refusals_numbered : (op : Operation) (s : State) → Numbered (refusals op s)
unfolding refusals member
refusals_numbered (create k x y) s = (refl, (refl, tt))
refusals_numbered (close h) s = (refl, (refl, tt))
refusals_numbered (reset_event h) s = on_event_lem (λ r. Numbered r.refusals) (refl, tt) (object_at s.objects h) _ (λ v m. tt)
refusals_numbered (read k h) s = read_numbered k (object_at s.objects h)
refusals_numbered (signal how h) s = signal_numbered how (object_at s.objects h)
refusals_numbered (wait mode hs o f p a t now) s = (refl, (refl, (refl, tt)))
refusals_numbered (expire c t) s = (refl, tt)
refusals_numbered (cancel t) s = (refl, tt)
refusals_numbered snapshot s = tt

first_numbered : (rs : List Refusal) → Numbered rs → (n : ℕ) → first_refusal rs ≡ some n → member n call_numbers ≡ true
unfolding first_refusal
first_numbered [] k n e = differ (cc)
first_numbered (r ∷ rs) k n e = by_bool r.holds
    (λ t. let q : some r.number ≡ some n = rw t at e in let i : r.number ≡ n = cc in rw (← i) k.0)
    (λ f. first_numbered rs k.1 n (rw f at e))

call_numbered : (c : Call) (s : State) (n : ℕ) → first_refusal (conditions c s) ≡ some n → member n call_numbers ≡ true
unfolding member
call_numbered c s n e = first_numbered (conditions c s) (refl, refusals_numbered c.operation s) n e

-- CHANGES have the other numbers
abbrev pub other_numbers : List ℕ
other_numbers = 0 ∷ 4 ∷ 5 ∷ 6 ∷ 11 ∷ []

-- a property of every number of a list
pub among : (P : ℕ → Type 0) (ns : List ℕ) → All P ns → (n : ℕ) → member n ns ≡ true → P n
unfolding member
among P [] a n e = clash e refl
among P (k ∷ ns) a n e = by_bool (eqb n k) (λ y. rw (eqb-true n k y) a.0) (λ f. among P ns a.1 n (rw f at e))

pub refused_numbered : (c : Call) (s : State) (n : ℕ) → first_refusal (conditions c s) ≡ some n → member n refusal_numbers ≡ true
unfolding member
refused_numbered c s n e = among (λ n. member n refusal_numbers ≡ true) call_numbers (refl, (refl, (refl, (refl, (refl, (refl, (refl, tt))))))) n (call_numbered c s n e)

not_nine : {n : ℕ} → eqb n 9 ≡ false → n ≡ 9 → ⊥
not_nine {n} f e = eqb-false n 9 f e

pub others_not : (n : ℕ) → member n other_numbers ≡ true → member n refusal_numbers ≡ false
unfolding member
others_not n e = among (λ n. member n refusal_numbers ≡ false) other_numbers (refl, (refl, (refl, (refl, (refl, tt))))) n e

pub refusals_low : (n : ℕ) → member n refusal_numbers ≡ true → n ≤ 12
refusals_low n e = among (λ n. n ≤ 12) refusal_numbers (omega arith, (omega arith, (omega arith, (omega arith, (omega arith, (omega arith, (omega arith, (omega arith, tt)))))))) n e

pub others_low : (n : ℕ) → member n other_numbers ≡ true → n ≤ 12
others_low n e = among (λ n. n ≤ 12) other_numbers (omega arith, (omega arith, (omega arith, (omega arith, (omega arith, tt))))) n e

-- "5: objects unaltered; 6: objects unaltered";
-- and "nothing else spends" a ticket but queuing
pub record Fine (s : State) (d : Change) : Type 0 where
  pub number : member d.answer other_numbers ≡ true
  pub ends : member d.answer (5 ∷ 6 ∷ []) ≡ true → (d.state.objects ≡ s.objects) × (d.changed ≡ []) × (d.clears ≡ 0)
  pub spends : d.state.next ≡ cond (eqb d.answer 11) (suc s.next) s.next

-- an answer of 0 or 4
abbrev Plain : ℕ → Type 0
Plain a = member a (0 ∷ 4 ∷ []) ≡ true

plain_is : (P : ℕ → Type 0) → P 0 → P 4 → (a : ℕ) → Plain a → P a
plain_is P p q a e = among P (0 ∷ 4 ∷ []) (p, (q, tt)) a e

plain_fine : (s : State) (d : Change) → Plain d.answer → d.state.next ≡ s.next → Fine s d
unfolding member
plain_fine s d p n = record {
  number = plain_is (λ a. member a other_numbers ≡ true) refl refl d.answer p;
  ends = λ e. clash e (plain_is (λ a. member a (5 ∷ 6 ∷ []) ≡ false) refl refl d.answer p);
  spends = let z = plain_is (λ a. eqb a 11 ≡ false) refl refl d.answer p in rw z n;
}

signal_plain : (how : Signal) (x : Object) → Plain (signal_rule how x).answer
unfolding member
signal_plain (post add) x = on_semaphore_lem (λ r. Plain r.answer) refl x _ (λ c m. refl)
signal_plain (unlock o) x = on_mutex_lem (λ r. Plain r.answer) refl x _ (λ h c a. refl)
signal_plain (kill o) x = on_mutex_lem (λ r. Plain r.answer) refl x _ (λ h c a. refl)
signal_plain set_event x = on_event_lem (λ r. Plain r.answer) refl x _ (λ s m. refl)
signal_plain pulse_event x = on_event_lem (λ r. Plain r.answer) refl x _ (λ s m. refl)

read_plain : (k : Kind) (x : Object) → Plain (read_rule k x).answer
unfolding member
read_plain a_semaphore x = on_semaphore_lem (λ r. Plain r.answer) refl x _ (λ c m. refl)
read_plain a_mutex x = on_mutex_lem (λ r. Plain r.answer) refl x _ (λ o c a. read_mutex (λ r. Plain r.answer) x o c a refl refl)
read_plain an_event x = on_event_lem (λ r. Plain r.answer) refl x _ (λ s m. refl)

admits_fine : (w : Wait) (time : ℕ) (s : State) → Fine s (admits w time s)
unfolding admits member
admits_fine w time s = by_option (attempt s.objects w)
    (λ e. rw e (by_bool (time_up w.timeout time) (λ t. rw t record { number = refl; ends = λ z. (refl, refl, refl); spends = refl })
    (λ f. rw f record { number = refl; ends = λ z. clash z refl; spends = refl })))
    (λ g e. by_bool (any_abandoned s.objects g.handles) (λ d. rw (e, d) record { number = refl; ends = λ z. clash z refl; spends = refl })
    (λ d. rw (e, d) record { number = refl; ends = λ z. clash z refl; spends = refl }))

end_each_next : (n : ℕ) (f : Wait → Bool) (s : State) → (end_each n f s).state.next ≡ s.next
unfolding end_each
end_each_next zero f s = refl
end_each_next (suc n) f s = by_option (oldest f s.waits) (λ e. rw e) (λ w e. rw e (end_each_next n f (with_waits s (dequeue w.ticket s.waits))))

pub change_fine : (op : Operation) (s : State) → Fine s (change op s)
unfolding change member
change_fine (create k x y) s = plain_fine s _ refl refl
change_fine (close h) s = plain_fine s _ refl refl
change_fine (reset_event h) s = plain_fine s _ (on_event_lem (λ r. Plain r.answer) refl (object_at s.objects h) _ (λ v m. refl)) refl
change_fine (read k h) s = plain_fine s _ (read_plain k (object_at s.objects h)) refl
change_fine (signal how h) s = plain_fine s _ (signal_plain how (object_at s.objects h)) refl
change_fine (wait mode hs o f p a t now) s = admits_fine (new_wait mode hs o f a t s.next) now s
change_fine (expire c t) s = plain_fine s _ refl (end_each_next (length s.waits) (due c t) s)
change_fine (cancel t) s = record { number = refl; ends = λ e. (refl, refl, refl); spends = refl }
change_fine snapshot s = plain_fine s _ refl refl

-- EVERY CALL on states
pub step_low : (s : State) (c : Call) → (library_step s c).answer ≤ 12
unfolding library_step
step_low s c = perform_case wake_by_walk s c (λ o. o.answer ≤ 12) (λ n e. refusals_low n (refused_numbered c s n e)) (λ a. others_low _ (change_fine c.operation s).number)

pub step_refused : (s : State) (c : Call) → member (library_step s c).answer refusal_numbers ≡ true → library_step s c ≡ unaltered (library_step s c).answer c.lent s
unfolding library_step
step_refused s c = perform_case wake_by_walk s c (λ o. member o.answer refusal_numbers ≡ true → o ≡ unaltered o.answer c.lent s) (λ n e m. refl)
    (λ a m. clash m (others_not _ (change_fine c.operation s).number))

pub step_ended : (s : State) (c : Call) → member (library_step s c).answer (5 ∷ 6 ∷ []) ≡ true → (library_step s c).held.objects ≡ s.objects
unfolding library_step
step_ended s c = perform_case wake_by_walk s c (λ o. member o.answer (5 ∷ 6 ∷ []) ≡ true → o.held.objects ≡ s.objects) (λ n e m. refl)
    (λ a m. let d : Change = change c.operation s in let r = (change_fine c.operation s).ends m in let e1 = r.1 in let e2 = r.2 in
    rw (e2, e1, walk_nothing (length d.state.waits) 0 d.state) r.0)

pub refused_not : (n : ℕ) (k : ℕ) → member k refusal_numbers ≡ false → member n refusal_numbers ≡ true → eqb n k ≡ false
refused_not n k other e = by_bool (eqb n k) (λ y. clash (let q : n ≡ k = eqb-true n k y in rw q at e) other) (λ f. f)

pub refusal_never : (c : Call) (s : State) (n k : ℕ) → member k refusal_numbers ≡ false → first_refusal (conditions c s) ≡ some n → n ≡ k → ⊥
refusal_never c s n k other e q = clash (rw q at (refused_numbered c s n e)) other

pub step_spends : (s : State) (c : Call) → (library_step s c).held.next ≡ cond (eqb (library_step s c).answer 11) (suc s.next) s.next
unfolding library_step member
step_spends s c = perform_case wake_by_walk s c (λ o. o.held.next ≡ cond (eqb o.answer 11) (suc s.next) s.next)
    (λ n e. let z : eqb n 11 ≡ false = eleven n (refused_numbered c s n e) in rw z)
    (λ a. let d : Change = change c.operation s in
    walk_keeps (λ u. u.next ≡ d.state.next) (λ u w t m q k. k) (length d.state.waits) d.changed 0 d.state refl ∙ (change_fine c.operation s).spends)
  where
    eleven : (n : ℕ) → member n refusal_numbers ≡ true → eqb n 11 ≡ false
    eleven n e = refused_not n 11 refl e

-- A WRONG OBJECT is refused with 1
wrong_semaphore : (x : Object) (f : ℕ → ℕ → Rule) → of_kind a_semaphore x ≡ false → on_semaphore x f ≡ wrong_kind
wrong_semaphore empty f e = refl
wrong_semaphore (semaphore c m) f e = clash refl e
wrong_semaphore (mutex o c a) f e = refl
wrong_semaphore (event s m) f e = refl

wrong_mutex : (x : Object) (f : ℕ → ℕ → Bool → Rule) → of_kind a_mutex x ≡ false → on_mutex x f ≡ wrong_kind
wrong_mutex empty f e = refl
wrong_mutex (semaphore c m) f e = refl
wrong_mutex (mutex o c a) f e = clash refl e
wrong_mutex (event s m) f e = refl

wrong_event : (x : Object) (f : Bool → Bool → Rule) → is_event x ≡ false → on_event x f ≡ wrong_kind
wrong_event empty f e = refl
wrong_event (semaphore c m) f e = refl
wrong_event (mutex o c a) f e = refl
wrong_event (event s m) f e = clash refl e

wrong_read : (k : Kind) (x : Object) → of_kind k x ≡ false → read_rule k x ≡ wrong_kind
wrong_read a_semaphore x e = wrong_semaphore x _ e
wrong_read a_mutex x e = wrong_mutex x _ e
wrong_read an_event x e = wrong_event x _ e

wrong_signal : (how : Signal) (x : Object) → of_kind (kind_for how) x ≡ false → signal_rule how x ≡ wrong_kind
wrong_signal (post add) x e = wrong_semaphore x _ e
wrong_signal (unlock o) x e = wrong_mutex x _ e
wrong_signal (kill o) x e = wrong_mutex x _ e
wrong_signal set_event x e = wrong_event x _ e
wrong_signal pulse_event x e = wrong_event x _ e

wrong_wait : (a b c d e f g h : Bool) → (c || g) ≡ true → any_of (a ∷ b ∷ c ∷ d ∷ e ∷ f ∷ g ∷ h ∷ []) ≡ true
unfolding any_of
wrong_wait a b true d e f g h y = or_right a _ (or_right b _ refl)
wrong_wait a b false d e f true h y = or_right a _ (or_right b _ (or_right d _ (or_right e _ (or_right f _ refl))))
wrong_wait a b false d e f false h y = clash y refl

wrong_rule : (r : Rule) → r ≡ wrong_kind → first_refusal r.refusals ≡ some 1
unfolding first_refusal
wrong_rule r e = ap (λ (x : Rule). first_refusal x.refusals) e

wrong_first : (op : Operation) (s : State) → wrong_object op s.objects ≡ true → first_refusal (refusals op s) ≡ some 1
unfolding refusals first_refusal
wrong_first (create k x y) s e = clash e refl
wrong_first (close h) s e = rw e
wrong_first (reset_event h) s e = wrong_rule _ (wrong_event (object_at s.objects h) _ (not_true _ e))
wrong_first (read k h) s e = wrong_rule _ (wrong_read k (object_at s.objects h) (not_true _ e))
wrong_first (signal how h) s e = wrong_rule _ (wrong_signal how (object_at s.objects h) (not_true _ e))
wrong_first (wait mode hs o f p a t now) s e = rw (wrong_wait (list_too_short mode hs) (ltb max_listed (length hs)) (not (all_occupied s.objects hs)) (eqb o 0) (ltb 1 f) (not (eqb p 0)) (not (eqb a 0 || is_event (object_at s.objects a))) (repeats mode (a ∷ hs)) e)
wrong_first (expire c t) s e = clash e refl
wrong_first (cancel t) s e = clash e refl
wrong_first snapshot s e = clash e refl

-- too short is 12, and a wrong object 1 where nothing is too short
pub step_short : (s : State) (c : Call) → (LongEnough c → ⊥) → (library_step s c).answer ≡ 12
unfolding library_step first_refusal
step_short s c n = let e : (ltb (length c.lent.wake) (least c.operation).0 || ltb (length c.lent.buffer) (least c.operation).1) ≡ true =
    by_bool (ltb (length c.lent.wake) (least c.operation).0) (λ y. rw y)
    (λ a. by_bool (ltb (length c.lent.buffer) (least c.operation).1) (λ y. rw (a, y)) (λ b. absurd (n (ltb-false _ _ a, ltb-false _ _ b)))) in rw e

pub step_wrong : (s : State) (c : Call) → LongEnough c → wrong_object c.operation s.objects ≡ true → (library_step s c).answer ≡ 1
unfolding library_step first_refusal
step_wrong s c l w = let a : ltb (length c.lent.wake) (least c.operation).0 ≡ false = le-ltb _ _ l.0 in let b : ltb (length c.lent.buffer) (least c.operation).1 ≡ false = le-ltb _ _ l.1 in
    rw (a, b, wrong_first c.operation s w)

-- on a state nobody answers 9
pub never_corrupt : (wake_up : List ℕ → State → Woken) (s : State) (c : Call) → (perform wake_up s c).answer ≡ 9 → ⊥
never_corrupt wake_up s c = perform_case wake_up s c (λ o. o.answer ≡ 9 → ⊥)
    (λ n e. not_nine (among (λ n. eqb n 9 ≡ false) call_numbers (refl, (refl, (refl, (refl, (refl, (refl, (refl, tt))))))) n (call_numbered c s n e)))
    (λ a. not_nine (among (λ n. eqb n 9 ≡ false) other_numbers (refl, (refl, (refl, (refl, (refl, tt))))) _ (change_fine c.operation s).number))

-- THE FIRST REFUSAL THAT HOLDS
first_is : (rs : List Refusal) (n : ℕ) → FirstIs n rs → first_refusal rs ≡ some n
unfolding first_refusal
first_is [] n f = absurd f
first_is (r ∷ rs) n (inl p) = let t = p.0 in let i = p.1 in rw (t, i)
first_is (r ∷ rs) n (inr p) = let t = p.0 in rw t (first_is rs n p.1)

is_first : (rs : List Refusal) (n : ℕ) → first_refusal rs ≡ some n → FirstIs n rs
unfolding first_refusal
is_first [] n e = differ (cc)
is_first (r ∷ rs) n e = by_bool r.holds
    (λ t. inl (t, (let q : some r.number ≡ some n = rw t at e in let i : r.number ≡ n = cc in i)))
    (λ f. inr (f, is_first rs n (rw f at e)))

pub step_exactly : (s : State) (c : Call) (n : ℕ) → member n refusal_numbers ≡ true → ((library_step s c).answer ≡ n) ↔ FirstIs n (conditions c s)
unfolding library_step
step_exactly s c n k = (
  perform_case wake_by_walk s c (λ o. o.answer ≡ n → FirstIs n (conditions c s)) (λ m e q. is_first (conditions c s) n (e ∙ ap some q))
      (λ a q. clash k (rw q at (others_not _ (change_fine c.operation s).number))),
  λ f. let e = first_is (conditions c s) n f in rw e,
)
