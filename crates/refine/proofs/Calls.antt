-- Every call on the cells of a valid state is the library's step.
use mathlib.Core.Path.{◌≡◌, refl, ap, sym, ◌∙◌, subst}
use mathlib.Core.Bool.{Bool, true, false, cond}
use mathlib.Core.List.{List, [], ◌∷◌, append-nil}
use mathlib.Core.Option.{none, some}
use Prim.Native.Nat.{ℕ, suc, pred, ◌+◌, ◌-◌, ◌≤◌, ◌<◌}
use native.Mathlib.Omega.{arith}
use native.Mathlib.Nat.{zero-add}
use native.Mathlib.Numerals.{add-one}
use lib.ListN.{length, get_or}
use lib.Dec.{eqb, ltb}
use borrow.Author.Tests.{ltb-true, ltb-false, eqb-true, eqb-false, lt-ltb, le-ltb, ne_eqb}
use Rattle.model.specs.Basics.{done, invalid, bit, overwrite}
use Rattle.model.specs.Calls.{Kind, a_semaphore, a_mutex, an_event, Signal, post, unlock, kill, set_event, pulse_event, Operation, create, close, reset_event, read, signal, expire, cancel, snapshot, Lent, least, refusal, Rule, rule, read_rule, held_by, signal_rule, reset_rule, clears_after, bad_new, new_object, lowest_empty, new_handle, refusals, Change, answers, writes, wakes, end_each, change}
use Rattle.model.specs.Snapshot.{snapshot_text}
use Rattle.model.specs.Layout.{encode}
use Rattle.model.specs.Sizes.{object_places, wait_places, wake_length, snapshot_buffer}
use Rattle.model.specs.Objects.{Object, empty, semaphore, mutex, event, occupied, cleared}
use Rattle.model.specs.Steps.{Outcome, conditions_on, perform_on, first_refusal, records, completed, on_tables}
use Rattle.model.specs.Notions.{◌is_in◌}
use Rattle.model.specs.Waits.{Wait, free, State, with_waits, object_at, put_object, dequeue, any_waiting, concerned_by, Woken, wake_by_walk}
use Rattle.model.proofs.Waking.{walk_nothing}
use Rattle.model.proofs.Logic.{by_bool}
use Rattle.model.proofs.Rules.{accepted, clear, due, signal_keeps}
use Rattle.model.proofs.Valid.{Valid, none_waiting, waiting_none, walk_valid, keeps_valid}
use Rattle.model.proofs.Cells.{at_in, in_at, by_place, Holds, holds}
use Rattle.cells.specs.Calls.{Result, answered, refused_with, woke, empty_object, create_cells, new_fields, busy_at, close_cells, read_on, read_cells, reset_on, reset_cells, cleared_after, signal_on, signal_cells, expire_cells, ticket_place, cancel_cells, snapshot_cells}
use Rattle.cells.specs.Fold.{search_from}
use Rattle.cells.specs.Objects.{fields_at, put_fields, named, store, Changed, post_fields, if_held, unlock_fields, kill_fields, switch_fields}
use Rattle.cells.specs.Walk.{wake_cells, end_cells}
use Rattle.cells.specs.Waits.{ticket_at, clear_wait}
use Rattle.refine.proofs.Snapshot.{snapshot_of_lem}
use Rattle.refine.proofs.Fold.{First, search_is, search_empty, lowest_shift}
use Rattle.refine.proofs.Objects.{fields_of, fields_at_lem, put_fields_lem, named_is, store_is, cleared_fields, occupied_at_lem, kind_empty}
use Rattle.refine.proofs.Walk.{standing, leaving, wake_is, end_is}
use Rattle.refine.proofs.Waits.{ticket_at_lem, clear_wait_lem, free_ticket, tells_names, some_waiting}

-- what a caller gets of an outcome on tables
abbrev pub told : Outcome (List ℕ) → Result
told o = record { answer = o.answer; first = o.first; second = o.second; woken = length o.reports; tables = o.held; wake = o.lent.wake; buffer = o.lent.buffer }

unfoldable pub means : State → Operation → Lent → Result
means s op l = told (on_tables (perform_on wake_by_walk s op l))

abbrev pub leaves : Lent → Change → Result
leaves l d = told (on_tables (completed wake_by_walk l d))

pub refused_is : (s : State) (op : Operation) (l : Lent) (n : ℕ) → first_refusal (conditions_on op l s) ≡ some n → refused_with n (encode s) l ≡ means s op l
unfolding means
refused_is s op l n e = rw e

pub accepted_is : (s : State) (op : Operation) (l : Lent) → first_refusal (conditions_on op l s) ≡ none → leaves l (change op s) ≡ means s op l
unfolding means
accepted_is s op l e = rw e

-- a change that wakes nobody
pub plain : (s : State) (l : Lent) (a x y : ℕ) → answered a x y (encode s) l ≡ leaves l (answers a x y s)
unfolding records
plain s l a x y = rw (walk_nothing (length s.waits) 0 s)

-- lists of any length are long enough where none is needed
pub any_length : (l : List ℕ) → ltb (length l) 0 ≡ false
any_length l = le-ltb (length l) 0 (omega arith)

-- CREATING
new_fields_lem : (k : Kind) (x y : ℕ) → new_fields k x y ≡ fields_of (new_object k x y)
new_fields_lem a_semaphore x y = refl
new_fields_lem a_mutex x y = refl
new_fields_lem an_event x y = refl

pub create_is : (s : State) → Valid s → (k : Kind) (x y : ℕ) (l : Lent) → create_cells (bad_new k x y) (new_fields k x y) (encode s) l ≡ means s (create k x y) l
unfolding create_cells empty_object refusals first_refusal least change
create_is s g k x y l =
    let q = g.places in let f : ℕ → Bool = λ p. eqb (fields_at (encode s) p).kind 0 in
    let e : search_from f 0 (length s.objects) ≡ lowest_empty 0 s.objects = search_empty s.objects 0 f (λ i m. rw (zero-add i, fields_at_lem s i m) (kind_empty (object_at s.objects (suc i)))) in
    let p : ℕ = lowest_empty 0 s.objects in
    let e' : search_from f 0 object_places ≡ p = ap (λ (n : ℕ). search_from f 0 n) (sym q) ∙ e in
    let h : new_handle s ≡ suc p = lowest_shift s.objects 0 in
    rw (e', new_fields_lem k x y) (by_bool (bad_new k x y)
    (λ b. rw b (refused_is s (create k x y) l 1 (rw (any_length l.wake, any_length l.buffer, b))))
    (λ b. by_bool (ltb p object_places)
    (λ r. let m : p < object_places = ltb-true _ _ r in let full : ltb (length s.objects) (new_handle s) ≡ false = le-ltb (length s.objects) (new_handle s) (omega arith) in
    let stored : put_fields (encode s) p (fields_of (new_object k x y)) ≡ encode (put_object s (new_handle s) (new_object k x y)) = put_fields_lem s p (new_object k x y) (omega arith) ∙ ap (λ (n : ℕ). encode (put_object s n (new_object k x y))) (sym h) in
    let hd : p + 1 ≡ new_handle s = add-one p ∙ sym h in
    rw (b, r, stored, hd)
    (plain (put_object s (new_handle s) (new_object k x y)) l 0 (new_handle s) 0 ∙ accepted_is s (create k x y) l (rw (any_length l.wake, any_length l.buffer, b, full))))
    (λ r. let m : object_places ≤ p = ltb-false _ _ r in let full : ltb (length s.objects) (new_handle s) ≡ true = lt-ltb (length s.objects) (new_handle s) (omega arith) in
    rw (b, r) (refused_is s (create k x y) l 7 (rw (any_length l.wake, any_length l.buffer, b, full))))))

-- CLOSING
pub close_is : (s : State) → Valid s → (h : ℕ) (l : Lent) → close_cells h (encode s) l ≡ means s (close h) l
unfolding close_cells refusals first_refusal least change
close_is s g h l = rw (occupied_at_lem s g.places h, some_waiting s (concerned_by (h ∷ [])) (busy_at (encode s) h) g (tells_names s g h))
    (by_bool (occupied (object_at s.objects h))
    (λ o. by_bool (any_waiting (concerned_by (h ∷ [])) s.waits)
    (λ b. rw (o, b) (refused_is s (close h) l 10 (rw (any_length l.wake, any_length l.buffer, o, b))))
    (λ b. rw (o, b, store_is s g.places h empty) (plain (put_object s h empty) l 0 0 0 ∙ accepted_is s (close h) l (rw (any_length l.wake, any_length l.buffer, o, b)))))
    (λ o. rw o (refused_is s (close h) l 1 (rw (any_length l.wake, any_length l.buffer, o)))))

-- READING and RESETTING: by the object x at h
module _ (s : State) (g : Valid s) (h : ℕ) (l : Lent) where
  wrong_kind_lem : (op : Operation) → refusals op s ≡ refusal invalid true ∷ [] → least op ≡ (0, 0) → refused_with 1 (encode s) l ≡ means s op l
  unfolding first_refusal
  wrong_kind_lem op e n = refused_is s op l 1 (rw (e, n, any_length l.wake, any_length l.buffer))

  no_refusal : (op : Operation) → refusals op s ≡ [] → least op ≡ (0, 0) → leaves l (change op s) ≡ means s op l
  unfolding first_refusal
  no_refusal op e n = accepted_is s op l (rw (e, n, any_length l.wake, any_length l.buffer))

  pub read_is : (k : Kind) → read_cells k h (encode s) l ≡ means s (read k h) l
  unfolding read_cells
  read_is k = rw (named_is s g.places h) (go k (object_at s.objects h) refl)
    where
      refused : (k : Kind) → (read_rule k (object_at s.objects h)).refusals ≡ refusal invalid true ∷ [] → refused_with 1 (encode s) l ≡ means s (read k h) l
      refused k e = unfold refusals least in wrong_kind_lem (read k h) e refl

      given : (k : Kind) (a x y : ℕ) → read_rule k (object_at s.objects h) ≡ record { refusals = []; answer = a; first = x; second = y; next = object_at s.objects h } → answered a x y (encode s) l ≡ means s (read k h) l
      given k a x y e = unfold refusals least change in (rw (← (ap (λ (r : Rule). r.answer) e), ← (ap (λ (r : Rule). r.first) e), ← (ap (λ (r : Rule). r.second) e))
          (plain s l _ _ _ ∙ no_refusal (read k h) (ap (λ (r : Rule). r.refusals) e) refl))

      go : (k : Kind) (x : Object) → object_at s.objects h ≡ x → read_on k (fields_of x) (encode s) l ≡ means s (read k h) l
      go a_semaphore empty e = refused a_semaphore (rw e)
      go a_semaphore (semaphore c m) e = given a_semaphore 0 c m (rw e)
      go a_semaphore (mutex o c a) e = refused a_semaphore (rw e)
      go a_semaphore (event v m) e = refused a_semaphore (rw e)
      go a_mutex empty e = refused a_mutex (rw e)
      go a_mutex (semaphore c m) e = refused a_mutex (rw e)
      go a_mutex (mutex o c true) e = given a_mutex 4 0 0 (rw e)
      go a_mutex (mutex o c false) e = given a_mutex 0 o c (rw e)
      go a_mutex (event v m) e = refused a_mutex (rw e)
      go an_event empty e = refused an_event (rw e)
      go an_event (semaphore c m) e = refused an_event (rw e)
      go an_event (mutex o c a) e = refused an_event (rw e)
      go an_event (event v m) e = given an_event 0 (bit v) (bit m) (rw e)

  pub reset_is : reset_cells h (encode s) l ≡ means s (reset_event h) l
  unfolding reset_cells
  reset_is = rw (named_is s g.places h) (go (object_at s.objects h) refl)
    where
      refused : (reset_rule (object_at s.objects h)).refusals ≡ refusal invalid true ∷ [] → refused_with 1 (encode s) l ≡ means s (reset_event h) l
      refused e = unfold refusals least in wrong_kind_lem (reset_event h) e refl

      go : (x : Object) → object_at s.objects h ≡ x → reset_on h (fields_of x) (encode s) l ≡ means s (reset_event h) l
      go empty e = unfold switch_fields in refused (rw e)
      go (semaphore c m) e = unfold switch_fields in refused (rw e)
      go (mutex o c a) e = unfold switch_fields in refused (rw e)
      go (event v m) e = unfold refusals least change switch_fields in (
          rw (store_is s g.places h (event false m)) (plain (put_object s h (event false m)) l 0 (bit v) 0
          ∙ ap (leaves l) (let r : answers 0 (bit v) 0 (put_object s h (event false m)) ≡ change (reset_event h) s = rw e in r) ∙ no_refusal (reset_event h) (ap (λ (y : Object). (reset_rule y).refusals) e) refl))

-- WAKING
long_enough : (wake : List ℕ) → ltb (length wake) wake_length ≡ false → wake_length ≤ length wake
long_enough wake e = ltb-false (length wake) wake_length e

module _ (s : State) (g : Valid s) (h : ℕ) (l : Lent) (long : ltb (length l.wake) wake_length ≡ false) where
  -- object h is y from now on, and the waits that name it are tried; a pulse then clears its event
  woke_is : (how : Signal) (r : Rule) (y : Object) → r.answer ≡ 0 → r.second ≡ 0 → r.next ≡ y → Valid (put_object s h y)
      → woke r.first (cleared_after how h (wake_cells (store (encode s) h (fields_of y)) h l.wake)) l ≡ leaves l (wakes r h (clears_after how h) s)
  woke_is how r y a b n v = rw (store_is s g.places h y, wake_is (put_object s h y) h l.wake v (long_enough l.wake long), a, b, n) (go how)
    where
      s' : State
      s' = (wake_by_walk (h ∷ []) (put_object s h y)).state

      full : length s'.objects ≡ object_places
      full = (walk_valid (length s.waits) (h ∷ []) 0 (put_object s h y) v).places

      cleared_store : store (encode s') h (switch_fields 0 (named (encode s') h)).next ≡ encode (clear h s')
      cleared_store = rw (named_is s' full h, cleared_fields (object_at s'.objects h)) (store_is s' full h (cleared (object_at s'.objects h)))

      go : (how : Signal) → woke r.first (cleared_after how h (leaving [] l.wake (wake_by_walk (h ∷ []) (put_object s h y)))) l
          ≡ leaves l (record { answer = 0; first = r.first; second = 0; reports = []; text = []; state = put_object s h y; changed = h ∷ []; clears = clears_after how h })
      go (post add) = refl
      go (unlock asking) = refl
      go (kill asking) = refl
      go set_event = refl
      go pulse_event = rw cleared_store

  signal_refused : (how : Signal) (n : ℕ) → first_refusal (signal_rule how (object_at s.objects h)).refusals ≡ some n → refused_with n (encode s) l ≡ means s (signal how h) l
  unfolding first_refusal refusals least
  signal_refused how n e = refused_is s (signal how h) l n (rw (long, any_length l.buffer, e))

  signal_accepted : (how : Signal) → first_refusal (signal_rule how (object_at s.objects h)).refusals ≡ none → leaves l (wakes (signal_rule how (object_at s.objects h)) h (clears_after how h) s) ≡ means s (signal how h) l
  unfolding first_refusal refusals least change
  signal_accepted how e = accepted_is s (signal how h) l (rw (long, any_length l.buffer, e))

  -- a rule that is not refused, by its number and next state
  signal_woke : (how : Signal) (x : ℕ) (z : Object) → signal_rule how (object_at s.objects h) ≡ record { refusals = (signal_rule how (object_at s.objects h)).refusals; answer = 0; first = x; second = 0; next = z }
      → first_refusal (signal_rule how (object_at s.objects h)).refusals ≡ none
      → woke x (cleared_after how h (wake_cells (store (encode s) h (fields_of z)) h l.wake)) l ≡ means s (signal how h) l
  signal_woke how x z e n =
      let r : Rule = signal_rule how (object_at s.objects h) in
      let v : Valid (put_object s h z) = subst (λ (q : Object). Valid (put_object s h q)) (ap (λ (q : Rule). q.next) e) (keeps_valid s h r.next g (signal_keeps how (object_at s.objects h) (accepted r.refusals n))) in
      ap (λ (q : ℕ). woke q (cleared_after how h (wake_cells (store (encode s) h (fields_of z)) h l.wake)) l) (sym (ap (λ (q : Rule). q.first) e))
      ∙ woke_is how r z (ap (λ (q : Rule). q.answer) e) (ap (λ (q : Rule). q.second) e) (ap (λ (q : Rule). q.next) e) v ∙ signal_accepted how n

  -- what the cells of the object come to, and what the rule says
  abbrev settles : Signal → ℕ → Changed → Result
  settles how x r = cond (eqb r.answer 0) (woke x (cleared_after how h (wake_cells (store (encode s) h r.next) h l.wake)) l) (refused_with r.answer (encode s) l)

  -- a mutex held by o, asked by `asking`
  held_is : (how : Signal) (asking o c : ℕ) (a : Bool) (x : ℕ) (z : Object) → signal_rule how (object_at s.objects h) ≡ rule (held_by asking o) done x 0 z
      → settles how x (if_held asking (fields_of (mutex o c a)) (fields_of z)) ≡ means s (signal how h) l
  unfolding first_refusal
  held_is how asking o c a x z e =
      let rs : (signal_rule how (object_at s.objects h)).refusals ≡ held_by asking o = ap (λ (r : Rule). r.refusals) e in
      by_bool (eqb asking 0) (λ y. rw y (signal_refused how 1 (rw (rs, y))))
      (λ n. by_bool (eqb o asking)
      (λ y. rw (n, y) (signal_woke how x z (rw e) (rw (rs, n, y))))
      (λ f. rw (n, f) (signal_refused how 2 (rw (rs, n, f)))))

  signal_on_lem : (how : Signal) (x : Object) → object_at s.objects h ≡ x → signal_on how h (fields_of x) (encode s) l ≡ means s (signal how h) l
  unfolding first_refusal post_fields unlock_fields kill_fields switch_fields
  signal_on_lem (post add) empty e = signal_refused (post add) 1 (rw e)
  signal_on_lem (post add) (semaphore c m) e = by_bool (ltb m (c + add))
      (λ y. rw y (signal_refused (post add) 3 (rw (e, y))))
      (λ n. rw n (signal_woke (post add) c (semaphore (c + add) m) (rw e) (rw (e, n))))
  signal_on_lem (post add) (mutex o c a) e = signal_refused (post add) 1 (rw e)
  signal_on_lem (post add) (event v m) e = signal_refused (post add) 1 (rw e)
  signal_on_lem (unlock asking) empty e = signal_refused (unlock asking) 1 (rw e)
  signal_on_lem (unlock asking) (semaphore c m) e = signal_refused (unlock asking) 1 (rw e)
  signal_on_lem (unlock asking) (mutex o c a) e = let q : c - 1 ≡ pred c = omega arith in rw q (held_is (unlock asking) asking o c a c (mutex (cond (eqb c 1) 0 o) (pred c) a) (rw e))
  signal_on_lem (unlock asking) (event v m) e = signal_refused (unlock asking) 1 (rw e)
  signal_on_lem (kill asking) empty e = signal_refused (kill asking) 1 (rw e)
  signal_on_lem (kill asking) (semaphore c m) e = signal_refused (kill asking) 1 (rw e)
  signal_on_lem (kill asking) (mutex o c a) e = held_is (kill asking) asking o c a 0 (mutex 0 0 true) (rw e)
  signal_on_lem (kill asking) (event v m) e = signal_refused (kill asking) 1 (rw e)
  signal_on_lem set_event empty e = signal_refused set_event 1 (rw e)
  signal_on_lem set_event (semaphore c m) e = signal_refused set_event 1 (rw e)
  signal_on_lem set_event (mutex o c a) e = signal_refused set_event 1 (rw e)
  signal_on_lem set_event (event v m) e = signal_woke set_event (bit v) (event true m) (rw e) (rw e)
  signal_on_lem pulse_event empty e = signal_refused pulse_event 1 (rw e)
  signal_on_lem pulse_event (semaphore c m) e = signal_refused pulse_event 1 (rw e)
  signal_on_lem pulse_event (mutex o c a) e = signal_refused pulse_event 1 (rw e)
  signal_on_lem pulse_event (event v m) e = signal_woke pulse_event (bit v) (event true m) (rw e) (rw e)

pub signal_is : (s : State) → Valid s → (how : Signal) (h : ℕ) (l : Lent) → signal_cells how h (encode s) l ≡ means s (signal how h) l
unfolding signal_cells first_refusal least
signal_is s g how h l = by_bool (ltb (length l.wake) wake_length)
    (λ y. rw y (refused_is s (signal how h) l 12 (rw y)))
    (λ n. rw (n, named_is s g.places h) (signal_on_lem s g h l n how (object_at s.objects h) refl))

-- EXPIRING and CANCELLING
pub expire_is : (s : State) → Valid s → (clock time : ℕ) (l : Lent) → expire_cells clock time (encode s) l ≡ means s (expire clock time) l
unfolding expire_cells refusals first_refusal least change records
expire_is s g clock time l = by_bool (ltb (length l.wake) wake_length)
    (λ y. rw y (refused_is s (expire clock time) l 12 (rw y)))
    (λ n. by_bool (ltb 1 clock)
    (λ y. rw (n, y) (refused_is s (expire clock time) l 1 (rw (n, any_length l.buffer, y))))
    (λ f. let q = g.slots in let v : Woken = end_each (length s.waits) (due clock time) s in
    let e : end_cells wait_places clock time (standing [] l.wake s) ≡ leaving [] l.wake v = ap (λ (n : ℕ). end_cells n clock time (standing [] l.wake s)) (sym q)
    ∙ end_is (length s.waits) clock time s g [] l.wake (let z = long_enough l.wake n in omega arith) in
    let done : woke 0 (leaving [] l.wake v) l ≡ leaves l (writes 0 v.reports [] v.state) = rw (walk_nothing (length v.state.waits) 0 v.state, append-nil v.reports) in
    rw (n, f, e) (done ∙ accepted_is s (expire clock time) l (rw (n, any_length l.buffer, f)))))

pub cancel_is : (s : State) → Valid s → (ticket : ℕ) (l : Lent) → cancel_cells ticket (encode s) l ≡ means s (cancel ticket) l
unfolding cancel_cells ticket_place refusals first_refusal least change
cancel_is s g ticket l =
    let f : ℕ → Bool = λ p. eqb (ticket_at (encode s) p) ticket in let p : ℕ = search_from f 0 wait_places in let r : First f 0 wait_places p = search_is f 0 wait_places in
    let absent : ((w : Wait) → w is_in s.waits → w.ticket ≡ ticket → ⊥) → refused_with 1 (encode s) l ≡ means s (cancel ticket) l = λ h.
    let n : any_waiting (λ w. eqb w.ticket ticket) s.waits ≡ false = none_waiting (λ w. eqb w.ticket ticket) s.waits (λ w m. ne_eqb w.ticket ticket (h w m)) in
    refused_is s (cancel ticket) l 1 (rw (any_length l.wake, any_length l.buffer, n)) in
    by_bool (eqb ticket 0)
    (λ z. rw z (absent (λ w m e. let a : 0 < w.ticket = (g.tickets w m).0 in let b : ticket ≡ 0 = eqb-true ticket 0 z in let y : ⊥ = omega arith in y)))
    (λ z. by_bool (ltb p wait_places)
    (λ y. let b : p < wait_places = ltb-true _ _ y in let t : ticket_at (encode s) p ≡ ticket = eqb-true _ _ (r.found (omega arith)) in by_place (get_or s.waits p free)
    (λ e. absurd (eqb-false ticket 0 z (sym t ∙ free_ticket s p g b e)))
    (λ w e. let st : Holds s p w = holds s p w g b e in let i : w.ticket ≡ ticket = sym (ticket_at_lem s p w st) ∙ t in
    let there : any_waiting (λ w. eqb w.ticket ticket) s.waits ≡ true = by_bool (any_waiting (λ w. eqb w.ticket ticket) s.waits) (λ a. a)
    (λ n. absurd (eqb-false _ _ (waiting_none (λ w. eqb w.ticket ticket) s.waits n w (at_in s.waits p w e)) i)) in
    let gone : clear_wait (encode s) p ≡ encode (with_waits s (dequeue ticket s.waits)) = clear_wait_lem s p w st g.distinct ∙ ap (λ (k : ℕ). encode (with_waits s (dequeue k s.waits))) i in
    rw (z, y, gone) (plain (with_waits s (dequeue ticket s.waits)) l 6 0 0 ∙ accepted_is s (cancel ticket) l (rw (any_length l.wake, any_length l.buffer, there)))))
    (λ n. rw (z, n) (absent (λ w m e. let k = in_at s.waits w m in let q = g.slots in let b : k.0 < length s.waits = k.1 in
    let c : wait_places ≤ p = ltb-false _ _ n in
    eqb-false _ _ (r.before k.0 (omega arith) (omega arith)) (ticket_at_lem s k.0 w (holds s k.0 w g (omega arith) k.2) ∙ e)))))

-- THE SNAPSHOT
pub snapshot_is : (s : State) → Valid s → (l : Lent) → snapshot_cells (encode s) l ≡ means s snapshot l
unfolding snapshot_cells refusals first_refusal least change records
snapshot_is s g l = by_bool (ltb (length l.buffer) snapshot_buffer)
    (λ y. rw y (refused_is s snapshot l 12 (rw (any_length l.wake, y))))
    (λ n. rw (n, snapshot_of_lem s g) ((let done : record { answer = 0; first = length (snapshot_text s); second = 0; woken = 0; tables = encode s; wake = l.wake; buffer = overwrite (snapshot_text s) l.buffer }
    ≡ leaves l (writes (length (snapshot_text s)) [] (snapshot_text s) s) = rw (walk_nothing (length s.waits) 0 s) in done)
    ∙ accepted_is s snapshot l (rw (any_length l.wake, n))))
