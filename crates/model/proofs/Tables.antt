-- From states to cells: the library's step on tables, and histories over them.
use mathlib.Core.Path.{◌≡◌, refl, ap, sym, ◌∙◌}
use mathlib.Core.Bool.{Bool, true, false, not, ◌&&◌, and-true, cond}
use mathlib.Core.List.{List, [], ◌∷◌, map}
use mathlib.Core.Option.{none}
use mathlib.Core.Logic.{◌⊎◌, inl, inr, ⊎_elim, ◌↔◌}
use Prim.Native.Nat.{ℕ, zero, suc, ◌+◌, ◌*◌, ◌≤◌, ◌<◌}
use native.Mathlib.Omega.{arith}
use lib.ListN.{length, get_or, replicate}
use lib.Dec.{eqb, ltb}
use borrow.Author.Tests.{eqb-false, le-ltb, eq-eqb, ne_eqb}
use Rattle.model.specs.Basics.{corrupt, any_of, member, tabulate, joined, All, overwrite}
use Rattle.model.specs.Calls.{Kind, create, new_object}
use Rattle.model.specs.Calls.{signal, pulse_event, wait, cancel, Lent, nothing_lent, Call, asks, least, refusal}
use Rattle.model.specs.Calls.{wait_faults, time_up}
use Rattle.model.specs.Calls.{new_wait, must_queue, waits_full, refusals, admits, change, WithinWidths}
use Rattle.model.specs.Layout.{object_size, wait_size, table_length, object_cells, wait_cells, encode, view}
use Rattle.model.specs.Layout.{valid_tables}
use Rattle.model.specs.Sizes.{object_places, wait_places, tickets_end, never}
use Rattle.model.specs.Objects.{Object, empty, signaled}
use Rattle.model.specs.Steps.{Outcome, unaltered, conditions, first_refusal, records, library_step, reference_step}
use Rattle.model.specs.Steps.{on_tables, as_read, table_step, run, make_tables}
use Rattle.model.specs.Notions.{refusal_numbers, FirstIs, Quiet, touched, Rising, AllOrNone, LongEnough}
use Rattle.model.specs.Notions.{wrong_object, ◌is_in◌}
use Rattle.model.specs.Waits.{Mode, any, all, Wait, free, waiting, State, initial, object_at, Grant, attempt}
use Rattle.model.specs.Waits.{servable, any_abandoned, served_answer, wake_by_walk, wake_by_search}
use Rattle.model.proofs.History.{Settled, step_same, step_settled}
use Rattle.model.proofs.Waking.{each, search_quiet}
use Rattle.model.proofs.Queue.{count_length}
use Rattle.model.proofs.Logic.{by_bool, by_option, is_some, clash}
use Rattle.model.proofs.Frame.{Untaken, Unreported, step_objects, UsedPlace, step_stays, step_free}
use Rattle.model.proofs.Validity.{tables_valid, encoded_valid}
use Rattle.model.proofs.Reports.{step_pulse, Left, Told, ByReports, step_room, step_left, step_rises, step_told}
use Rattle.model.proofs.Reports.{step_all_queued, unserved_all, not_served, step_all_now}
use Rattle.model.proofs.Places.{LowestFilled, step_creates, step_cancels}
use Rattle.model.proofs.Sleeps.{attempt_none, step_unended}
use Rattle.model.proofs.Rules.{perform_case}
use Rattle.model.proofs.Answers.{step_short, step_wrong, refusal_never, step_low, step_refused}
use Rattle.model.proofs.Answers.{step_ended, step_spends}
use Rattle.model.proofs.Answers.{never_corrupt, step_exactly}
use Rattle.model.proofs.Valid.{Valid, step_valid, valid_consistent}
use Rattle.model.proofs.Cells.{view_objects, view_encode}

-- a step on tables, by whether they are valid
pub tables_case : (t : List ℕ) (c : Call) (P : Outcome (List ℕ) → Type 0) → (valid_tables t ≡ false → P (unaltered 9 c.lent t))
    → (t ≡ encode (view t) → Valid (view t) → P (on_tables (library_step (view t) c))) → P (table_step t c)
unfolding table_step
tables_case t c P d v = by_bool (valid_tables t) (λ y. let r = tables_valid t y in rw y (v r.0 r.1)) (λ n. rw n (d n))

-- DEMAND 1
pub tables_low : (t : List ℕ) (c : Call) → (table_step t c).answer ≤ 12
tables_low t c = tables_case t c (λ o. o.answer ≤ 12) (λ n. omega arith) (λ e g. step_low (view t) c)

pub tables_refused : (t : List ℕ) (c : Call) → member (table_step t c).answer refusal_numbers ≡ true → table_step t c ≡ unaltered (table_step t c).answer c.lent t
tables_refused t c = tables_case t c (λ o. member o.answer refusal_numbers ≡ true → o ≡ unaltered o.answer c.lent t) (λ n m. refl)
    (λ e g m. ap on_tables (step_refused (view t) c m) ∙ ap (λ (u : List ℕ). unaltered (library_step (view t) c).answer c.lent u) (sym e))

pub tables_ended : (t : List ℕ) (c : Call) → member (table_step t c).answer (5 ∷ 6 ∷ []) ≡ true
    → (view (table_step t c).held).objects ≡ (view t).objects
tables_ended t c = tables_case t c (λ o. member o.answer (5 ∷ 6 ∷ []) ≡ true → (view o.held).objects ≡ (view t).objects)
    (λ n m. refl)
    (λ e g m. let s : State = (library_step (view t) c).held in let q : s.objects ≡ (view t).objects = step_ended (view t) c m in
    view_objects s (ap length q ∙ g.places) ∙ q)

-- each wrong input by its number
pub tables_refuse : (t : List ℕ) (c : Call) → (valid_tables t ≡ false → (table_step t c).answer ≡ 9)
    × (valid_tables t ≡ true → (LongEnough c → ⊥) → (table_step t c).answer ≡ 12)
    × (valid_tables t ≡ true → LongEnough c → wrong_object c.operation (view t).objects ≡ true → (table_step t c).answer ≡ 1)
unfolding table_step
tables_refuse t c = (λ f. rw f, λ v n. rw v (step_short (view t) c n), λ v l w. rw v (step_wrong (view t) c l w))

-- whatever the cells, a number that is no handle names nothing
tabulate_past : (n : ℕ) (f : ℕ → Object) (i : ℕ) → n ≤ i → get_or (tabulate n f) i empty ≡ empty
unfolding tabulate
tabulate_past zero f i l = refl
tabulate_past (suc n) f zero l = absurd (let z : ⊥ = omega arith in z)
tabulate_past (suc n) f (suc i) l = tabulate_past n (λ i. f (suc i)) i (omega arith)

pub tables_unknown : (t : List ℕ) (h : ℕ) → (h ≡ 0) ⊎ (object_places < h) → object_at (view t).objects h ≡ empty
unfolding view
tables_unknown t zero e = refl
tables_unknown t (suc i) (inl e) = absurd (let z : ⊥ = omega arith in z)
tables_unknown t (suc i) (inr l) = tabulate_past object_places _ i (omega arith)

-- EXACTLY
nine_refused : (n : ℕ) → n ≡ 9 → member n refusal_numbers ≡ true
unfolding member
nine_refused n e = rw e

pub tables_exactly : (t : List ℕ) (c : Call) (n : ℕ) → member n refusal_numbers ≡ true
    → ((table_step t c).answer ≡ n) ↔ FirstIs n (refusal corrupt (not (valid_tables t)) ∷ conditions c (view t))
unfolding table_step
tables_exactly t c n k = by_bool (valid_tables t)
    (λ y. let r = step_exactly (view t) c n k in rw y (λ q. inr (refl, r.0 q), ⊎_elim (λ p. clash p.0 refl) (λ p. r.1 p.1)))
    (λ f. rw f (λ q. inl (refl, q), ⊎_elim (λ p. p.1) (λ p. clash refl p.0)))

-- a wait that is in order and must be queued, is queued where place and ticket are left; and no other is
module _ (mode : Mode) (hs : List ℕ) (o f p a t now : ℕ) where
  abbrev waiter : State → Wait
  waiter s = new_wait mode hs o f a t s.next

  served_not : (os : List Object) (g : Grant) → served_answer os g ≡ 11 → ⊥
  served_not os g = by_bool (any_abandoned os g.handles) (λ e. rw e (λ (z : ◌≡◌ {A = ℕ} 4 11). let y : ⊥ = omega arith in y)) (λ e. rw e (λ (z : ◌≡◌ {A = ℕ} 0 11). let y : ⊥ = omega arith in y))

  abbrev Queues : State → Type 0
  Queues s = (servable s.objects (waiter s) ≡ false) × (time_up t now ≡ false) × (waits_full s.waits ≡ false) × (s.next ≡ tickets_end → ⊥)

  admits_queues : (s : State) → (waits_full s.waits && must_queue (waiter s) now s) ≡ false → (eqb s.next tickets_end && must_queue (waiter s) now s) ≡ false
      → (admits (waiter s) now s).answer ≡ 11 → Queues s
  unfolding admits
  admits_queues s full spent = by_option (attempt s.objects (waiter s))
      (λ e. by_bool (time_up t now) (λ u. rw (e, u) (λ (z : ◌≡◌ {A = ℕ} 5 11). absurd (let y : ⊥ = omega arith in y)))
      (λ u. rw (e, u) (λ z. (
        refl,
        refl,
        (let q : (waits_full s.waits && true) ≡ false = rw (e, u) at full in rw (← (and-true (waits_full s.waits))) q),
        eqb-false s.next tickets_end (let q : (eqb s.next tickets_end && true) ≡ false = rw (e, u) at spent in rw (← (and-true (eqb s.next tickets_end))) q),
      ))))
      (λ g e. rw e (λ z. absurd (served_not s.objects g z)))

  queues_admits : (s : State) → Queues s → (admits (waiter s) now s).answer ≡ 11
  unfolding admits
  queues_admits s q = by_option (attempt s.objects (waiter s)) (λ e. let u = q.1 in rw (e, u)) (λ g e. clash (ap is_some e) q.0)

  no_refusal : (l : Lent) (s : State) → any_of (wait_faults mode hs o f p a s.objects) ≡ false → Queues s
      → first_refusal (conditions (record { operation = wait mode hs o f p a t now; lent = l }) s) ≡ none
  unfolding first_refusal refusals least
  no_refusal l s ok q = let a : ltb (length l.wake) 0 ≡ false = le-ltb (length l.wake) 0 (omega arith) in let b : ltb (length l.buffer) 0 ≡ false = le-ltb (length l.buffer) 0 (omega arith) in
      let v = q.0 in let u = q.1 in let full = q.2 in let spent : eqb s.next tickets_end ≡ false = ne_eqb s.next tickets_end q.3 in
      rw (a, b, ok, v, u, full, spent)

  flip : (a b : Bool) → (a && b) ≡ false → (b && a) ≡ false
  flip true b e = rw e
  flip false true e = refl
  flip false false e = refl

  pub wait_queued : (l : Lent) (s : State) → any_of (wait_faults mode hs o f p a s.objects) ≡ false
      → ((library_step s (record { operation = wait mode hs o f p a t now; lent = l })).answer ≡ 11) ↔ Queues s
  unfolding library_step refusals change member
  wait_queued l s ok = (
    (let c : Call = record { operation = wait mode hs o f p a t now; lent = l } in
        perform_case wake_by_walk s c (λ o. o.answer ≡ 11 → Queues s)
        (λ n e q. absurd (refusal_never c s n 11 refl e q))
        (λ x q. admits_queues s (flip (must_queue (waiter s) now s) (waits_full s.waits) x.1.1.0) (flip (must_queue (waiter s) now s) (eqb s.next tickets_end) x.1.1.1.0) q)),
    λ q. rw (no_refusal l s ok q) (queues_admits s q),
  )

-- THE FRAME
pub tables_objects : (t : List ℕ) (c : Call) → WithinWidths c → (h : ℕ) → member h (touched c.operation (table_step t c).answer (table_step t c).first) ≡ false
    → Untaken h (view t).waits (table_step t c).reports → object_at (view (table_step t c).held).objects h ≡ object_at (view t).objects h
tables_objects t c fit h = tables_case t c
    (λ o. member h (touched c.operation o.answer o.first) ≡ false → Untaken h (view t).waits o.reports → object_at (view o.held).objects h ≡ object_at (view t).objects h)
    (λ n m u. refl)
    (λ e g m u. rw (view_encode (library_step (view t) c).held (step_valid (view t) c fit g)) (step_objects (view t) c h g m u))

pub tables_stays : (t : List ℕ) (c : Call) → WithinWidths c → (p : ℕ) (w : Wait) → get_or (view t).waits p free ≡ waiting w → (c.operation ≡ cancel w.ticket → ⊥)
    → Unreported w.ticket (table_step t c).reports → get_or (view (table_step t c).held).waits p free ≡ waiting w
tables_stays t c fit p w e n = tables_case t c (λ o. Unreported w.ticket o.reports → get_or (view o.held).waits p free ≡ waiting w)
    (λ d u. e)
    (λ q g u. rw (view_encode (library_step (view t) c).held (step_valid (view t) c fit g)) (step_stays (view t) c p w e n u))

pub tables_free : (t : List ℕ) (c : Call) → WithinWidths c → (p : ℕ) → get_or (view t).waits p free ≡ free
    → (get_or (view (table_step t c).held).waits p free ≡ free) ⊎ UsedPlace (view t) (table_step t c).answer p
tables_free t c fit p e = tables_case t c (λ o. (get_or (view o.held).waits p free ≡ free) ⊎ UsedPlace (view t) o.answer p)
    (λ d. inl e)
    (λ q g. rw (view_encode (library_step (view t) c).held (step_valid (view t) c fit g)) (step_free (view t) c p e))

-- THE REPORTS
pub tables_room : (t : List ℕ) (c : Call) → length (records (table_step t c).reports) ≤ length c.lent.wake
unfolding records
tables_room t c = tables_case t c (λ o. length (records o.reports) ≤ length c.lent.wake) (λ n. omega arith) (λ e g. step_room (view t) c g)

pub tables_wake : (t : List ℕ) (c : Call) → (table_step t c).lent.wake ≡ overwrite (records (table_step t c).reports) c.lent.wake
unfolding library_step records
tables_wake t c = tables_case t c (λ o. o.lent.wake ≡ overwrite (records o.reports) c.lent.wake) (λ n. refl)
    (λ e g. perform_case wake_by_walk (view t) c (λ o. o.lent.wake ≡ overwrite (records o.reports) c.lent.wake) (λ n q. refl) (λ q. refl))

-- a statement on the tables that a step leaves, from the same on the state
left_tables : (t : List ℕ) (c : Call) → WithinWidths c → (P : State → Outcome (List ℕ) → Type 0) → P (view t) (unaltered 9 c.lent t)
    → (Valid (view t) → P (library_step (view t) c).held (on_tables (library_step (view t) c))) → P (view (table_step t c).held) (table_step t c)
left_tables t c fit P d v = tables_case t c (λ o. P (view o.held) o) (λ n. d)
    (λ e g. rw (view_encode (library_step (view t) c).held (step_valid (view t) c fit g)) (v g))

pub tables_left : (t : List ℕ) (c : Call) → WithinWidths c → Left (view t).waits (view (table_step t c).held).waits (table_step t c).reports
tables_left t c fit = left_tables t c fit (λ s o. Left (view t).waits s.waits o.reports) tt (λ g. step_left (view t) c g)

pub tables_rise : (t : List ℕ) (c : Call) → Rising 0 (table_step t c).reports
tables_rise t c = tables_case t c (λ o. Rising 0 o.reports) (λ n. tt) (λ e g. step_rises (view t) c g)

pub tables_spend : (t : List ℕ) (c : Call) → WithinWidths c
    → (view (table_step t c).held).next ≡ cond (eqb (table_step t c).answer 11) (suc (view t).next) (view t).next
tables_spend t c fit = left_tables t c fit (λ s o. s.next ≡ cond (eqb o.answer 11) (suc (view t).next) (view t).next) refl (λ g. step_spends (view t) c)

pub tables_sleeps : (t : List ℕ) (c : Call) → WithinWidths c → (p : ℕ) (w : Wait) → get_or (view t).waits p free ≡ waiting w
    → w.mode ≡ any → w.list ≡ [] → w.alert ≡ 0 → w.timeout ≡ never → (c.operation ≡ cancel w.ticket → ⊥) → get_or (view (table_step t c).held).waits p free ≡ waiting w
tables_sleeps t c fit p w e m l a n d = left_tables t c fit (λ s o. get_or s.waits p free ≡ waiting w) e
    (λ g. step_unended (view t) c p w g e (λ os. attempt_none os w m l ∙ rw a) n d)

pub tables_told : (t : List ℕ) → valid_tables t ≡ true → (c : Call) → WithinWidths c → first_refusal (conditions c (view t)) ≡ none
    → (ByReports Told (view t) (change c.operation (view t)) (table_step t c).reports (view (table_step t c).held).objects)
    × (ByReports (λ w r os next. w.mode ≡ all → AllOrNone w r.answer r.index os next) (view t) (change c.operation (view t)) (table_step t c).reports (view (table_step t c).held).objects)
tables_told t v c fit a = tables_case t c
    (λ o. (ByReports Told (view t) (change c.operation (view t)) o.reports (view o.held).objects)
    × (ByReports (λ w r os next. w.mode ≡ all → AllOrNone w r.answer r.index os next) (view t) (change c.operation (view t)) o.reports (view o.held).objects))
    (λ n. clash v n)
    (λ e g. rw (view_encode (library_step (view t) c).held (step_valid (view t) c fit g)) (step_told (view t) c g a, step_all_queued (view t) c g a))

pub tables_all_now : (t : List ℕ) (hs : List ℕ) (o f p a timeout time : ℕ) (l : Lent) → let c = asks (wait all hs o f p a timeout time) l in WithinWidths c
    → AllOrNone (new_wait all hs o f a timeout 0) (table_step t c).answer (table_step t c).first (view t).objects (view (table_step t c).held).objects
tables_all_now t hs o f p a timeout time l fit = left_tables t (asks (wait all hs o f p a timeout time) l) fit
    (λ s r. AllOrNone (new_wait all hs o f a timeout 0) r.answer r.first (view t).objects s.objects)
    (unserved_all _ 9 0 _ _ (not_served 9 refl refl) refl) (λ g. step_all_now hs o f p a timeout time l (view t))

pub tables_pulse : (t : List ℕ) (h : ℕ) (l : Lent) → WithinWidths (asks (signal pulse_event h) l) → let r = table_step t (asks (signal pulse_event h) l) in
    r.answer ≡ 0 → (o : ℕ) → signaled o (object_at (view r.held).objects h) ≡ false
tables_pulse t h l fit = left_tables t (asks (signal pulse_event h) l) fit (λ s r. r.answer ≡ 0 → (o : ℕ) → signaled o (object_at s.objects h) ≡ false)
    (λ z. absurd (let y : ⊥ = omega arith in y)) (λ g. step_pulse (view t) h l)

-- creating and cancelling
pub tables_creates : (t : List ℕ) (k : Kind) (x y : ℕ) (l : Lent) → WithinWidths (asks (create k x y) l) → let r = table_step t (asks (create k x y) l) in
    r.answer ≡ 0 → LowestFilled r.first (new_object k x y) (view t).objects (view r.held).objects
tables_creates t k x y l fit = left_tables t (asks (create k x y) l) fit
    (λ s r. r.answer ≡ 0 → LowestFilled r.first (new_object k x y) (view t).objects s.objects)
    (λ z. absurd (let y : ⊥ = omega arith in y)) (λ g. step_creates k x y l (view t))

pub tables_cancels : (t : List ℕ) (k : ℕ) (l : Lent) → WithinWidths (asks (cancel k) l) → let r = table_step t (asks (cancel k) l) in
    r.answer ≡ 6 → (v : Wait) → v is_in (view r.held).waits → v.ticket ≡ k → ⊥
tables_cancels t k l fit = left_tables t (asks (cancel k) l) fit (λ s r. r.answer ≡ 6 → (v : Wait) → v is_in s.waits → v.ticket ≡ k → ⊥)
    (λ z. absurd (let y : ⊥ = omega arith in y)) (λ g. step_cancels k l (view t))

pub search_ends : (s : State) → Valid s → Quiet (wake_by_search [] s).state
search_ends s g = search_quiet (length s.waits) s (valid_consistent s g) (count_length each s.waits)

-- HISTORIES
pub settled_step : (s : State) (c : Call) → WithinWidths c → Settled s → table_step (encode s) c ≡ on_tables (reference_step s c)
unfolding table_step
settled_step s c fit t = rw (encoded_valid s t.valid, view_encode s t.valid, step_same s c fit t)

pub settled_run : (s : State) (cs : List Call) → All WithinWidths cs → Settled s → run table_step (encode s) cs ≡ map on_tables (run reference_step s cs)
unfolding run
settled_run s [] fit t = refl
settled_run s (c ∷ cs) fit t = rw (settled_step s c fit.0 t) (ap (λ (os : List (Outcome (List ℕ))). on_tables (reference_step s c) ∷ os)
    (settled_run (reference_step s c).held cs fit.1 (step_settled s c fit.0 t)))

-- the same, the tables being read
pub settled_read : (s : State) (cs : List Call) → All WithinWidths cs → Settled s → map as_read (run table_step (encode s) cs) ≡ run reference_step s cs
unfolding run
settled_read s [] fit t = refl
settled_read s (c ∷ cs) fit t = let u : Settled (reference_step s c).held = step_settled s c fit.0 t in
    rw (settled_step s c fit.0 t, view_encode (reference_step s c).held u.valid) (ap (λ (os : List (Outcome State)). reference_step s c ∷ os) (settled_read (reference_step s c).held cs fit.1 u))

-- newly made tables, cell by cell
pub initial_tables : encode initial ≡ 1 ∷ replicate (object_size * object_places + wait_size * wait_places) 0
unfolding encode joined object_cells wait_cells
initial_tables = refl

-- what holds of every outcome of a history
run_all : (P : Outcome (List ℕ) → Type 0) → ((s : State) (c : Call) → WithinWidths c → Settled s → P (on_tables (reference_step s c)))
    → (s : State) (cs : List Call) → All WithinWidths cs → Settled s → All P (run table_step (encode s) cs)
unfolding run
run_all P each s [] fit t = tt
run_all P each s (c ∷ cs) fit t = rw (settled_step s c fit.0 t) (each s c fit.0 t, run_all P each (reference_step s c).held cs fit.1 (step_settled s c fit.0 t))

pub run_quiet : (s : State) (cs : List Call) → All WithinWidths cs → Settled s → All (λ o. Quiet (view o.held)) (run table_step (encode s) cs)
run_quiet = run_all (λ o. Quiet (view o.held))
    (λ s c fit t. let r = step_settled s c fit t in rw (view_encode (reference_step s c).held r.valid) r.quiet)

pub reference_uncorrupted : (s : State) (c : Call) → (reference_step s c).answer ≡ 9 → ⊥
unfolding reference_step
reference_uncorrupted s c = never_corrupt wake_by_search s c

pub run_uncorrupted : (s : State) (cs : List Call) → All WithinWidths cs → Settled s → All (λ o. o.answer ≡ 9 → ⊥) (run table_step (encode s) cs)
run_uncorrupted = run_all (λ o. o.answer ≡ 9 → ⊥) (λ s c fit t. reference_uncorrupted s c)

-- MAKING
make_exactly : (t : List ℕ) → length t ≡ table_length → make_tables t ≡ unaltered 0 nothing_lent (encode initial)
unfolding make_tables
make_exactly t e = rw (eq-eqb (length t) table_length e)

make_short : (t : List ℕ) → (length t ≡ table_length → ⊥) → make_tables t ≡ unaltered 9 nothing_lent t
unfolding make_tables
make_short t n = rw (ne_eqb (length t) table_length n)

pub make_either : (t : List ℕ) → (length t ≡ table_length → make_tables t ≡ unaltered 0 nothing_lent (encode initial))
    × ((length t ≡ table_length → ⊥) → make_tables t ≡ unaltered 9 nothing_lent t)
make_either t = (make_exactly t, make_short t)
