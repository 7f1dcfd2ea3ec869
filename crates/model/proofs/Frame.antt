-- The frame: what a call neither makes, names nor takes, and waits that it neither adds, serves nor ends, keep all values.
use mathlib.Core.Path.{◌≡◌, refl, ap, sym, ◌∙◌, subst}
use mathlib.Core.Bool.{Bool, false, ◌||◌, cond}
use mathlib.Core.List.{List, [], ◌∷◌, ◌++◌}
use mathlib.Core.Option.{none, some}
use mathlib.Core.Logic.{◌⊎◌, inl, inr, ⊎_elim}
use Prim.Native.Nat.{ℕ, zero, suc, ◌+◌, ◌<◌}
use native.Mathlib.Omega.{arith}
use lib.ListN.{length, get_or}
use lib.Dec.{eqb, ltb}
use borrow.Author.Tests.{eqb-true, eqb-false, not-true, ne_eqb}
use Rattle.model.specs.Basics.{member, All}
use Rattle.model.specs.Calls.{Signal, post, unlock, kill, set_event, pulse_event, Operation, create, close, reset_event, read, signal, wait, expire, cancel, snapshot, Call, clears_after, new_object, new_handle, list_too_short, wait_faults, time_up, new_wait, enqueue, refusals, Change, admits, end_each, change}
use Rattle.model.specs.Objects.{Object, empty, signaled, acquired}
use Rattle.model.specs.Steps.{library_step}
use Rattle.model.specs.Notions.{◌is_in◌, taken_listed, taken_by, touched}
use Rattle.model.specs.Waits.{Mode, any, all, Wait, WaitPlace, free, waiting, State, with_waits, object_at, put_object, Grant, all_signaled, look, attempt, acquire_each, any_abandoned, served_answer, dequeue, oldest, concerned_by, Report, serve, try_to_serve, walk_queue, wake_by_walk}
use Rattle.model.proofs.History.{end_each_objects}
use Rattle.model.proofs.Waking.{after, walk_keeps, walk_nothing}
use Rattle.model.proofs.Logic.{by_bool, by_option, differ, or_split, eqb_same, passed, fault_free}
use Rattle.model.proofs.Rules.{Accepted, clear, due, perform_case}
use Rattle.model.proofs.Acquiring.{at_put_other, acquire_at}
use Rattle.model.proofs.Valid.{Valid, lowest_index}
use Rattle.model.proofs.Queue.{oldest_some, dequeue_in}

-- LISTS OF CLAIMS
pub all_map : {A : Type 0} (P Q : A → Type 0) → ((x : A) → P x → Q x) → (xs : List A) → All P xs → All Q xs
all_map P Q f [] a = tt
all_map P Q f (x ∷ xs) a = (f x a.0, all_map P Q f xs a.1)

all_right : {A : Type 0} (P : A → Type 0) (xs ys : List A) → All P (xs ++ ys) → All P ys
all_right P [] ys a = a
all_right P (x ∷ xs) ys a = all_right P xs ys a.1

-- WHAT A SERVED WAIT TOOK
below_not : (i n : ℕ) → i < n → eqb i n ≡ false
below_not i n h = ne_eqb i n (λ e. let z : ⊥ = omega arith in z)

look_taken : (mode : Mode) (o : ℕ) (os : List Object) (hs : List ℕ) (t : Grant) → list_too_short mode hs ≡ false → look mode o os hs ≡ some t
    → (eqb t.index (length hs) ≡ false) × (t.handles ≡ taken_listed mode hs t.index)
unfolding look
look_taken any o os hs t l e = let r = lowest_index o os 0 hs t e in let i : t.index ≡ r.0 = (let z : t.index ≡ 0 + r.0 = r.1 in omega arith) in
    (below_not t.index (length hs) (let y : r.0 < length hs = r.2 in omega arith), rw i r.3)
look_taken all o os hs t l e = by_bool (all_signaled o os hs)
    (λ s. let q : some record { handles = hs; index = 0 } ≡ some t = rw s at e in let r : record { handles = hs; index = 0 } ≡ t = cc in
    let i : 0 ≡ t.index = ap (λ (x : Grant). x.index) r in (rw (← i) (below_not 0 (length hs) (let z : length hs ≡ 0 → ⊥ = eqb-false (length hs) 0 l in omega arith)), ap (λ (x : Grant). x.handles) (sym r)))
    (λ n. differ (let q : none ≡ some t = rw n at e in cc))

pub grant_taken : (os : List Object) (w : Wait) (t : Grant) → list_too_short w.mode w.list ≡ false → attempt os w ≡ some t → t.handles ≡ taken_by w t.index
unfolding attempt
grant_taken os w t l e = by_option (look w.mode w.owner os w.list)
    (λ n. by_bool (signaled w.owner (object_at os w.alert))
    (λ s. let q : some record { handles = w.alert ∷ []; index = length w.list } ≡ some t = rw (n, s) at e in
    let r : record { handles = w.alert ∷ []; index = length w.list } ≡ t = cc in
    let i : length w.list ≡ t.index = ap (λ (x : Grant). x.index) r in
    rw (← i, eqb_same (length w.list)) (ap (λ (x : Grant). x.handles) (sym r)))
    (λ f. differ (let q : none ≡ some t = rw (n, f) at e in cc)))
    (λ x s. let q : some x ≡ some t = rw s at e in let r = look_taken w.mode w.owner os w.list t l (s ∙ q) in let a = r.0 in rw a r.1)

pub acquire_each_other : (o : ℕ) (os : List Object) (hs : List ℕ) (k : ℕ) → member k hs ≡ false → object_at (acquire_each o os hs) k ≡ object_at os k
unfolding acquire_each member
acquire_each_other o os [] k n = refl
acquire_each_other o os (h ∷ hs) k n = let r = or_split (eqb k h) (member k hs) n in
    acquire_each_other o (acquire_at o os h) hs k r.1 ∙ at_put_other os h (acquired o (object_at os h)) k r.0

not_timed_out : (os : List Object) (t : Grant) → served_answer os t ≡ 5 → ⊥
not_timed_out os t = by_bool (any_abandoned os t.handles) (λ e. rw e (λ (z : ◌≡◌ {A = ℕ} 4 5). let y : ⊥ = omega arith in y)) (λ e. rw e (λ (z : ◌≡◌ {A = ℕ} 0 5). let y : ⊥ = omega arith in y))

-- no wait of the queue that is reported served took this object
abbrev pub Untaken : ℕ → List WaitPlace → List Report → Type 0
Untaken h ws rs = All (λ r. (w : Wait) → w is_in ws → w.ticket ≡ r.ticket → (r.answer ≡ 5 → ⊥) → member h (taken_by w r.index) ≡ false) rs

-- every queued wait has a list
abbrev Listed : State → Type 0
Listed s = (w : Wait) → w is_in s.waits → list_too_short w.mode w.list ≡ false

untaken_less : (h : ℕ) (ws vs : List WaitPlace) (rs : List Report) → ((w : Wait) → w is_in vs → w is_in ws) → Untaken h ws rs → Untaken h vs rs
untaken_less h ws vs rs within u = all_map _ _ (λ r k w m. k w (within w m)) rs u

-- THE WALK: objects
walk_objects : (n : ℕ) (changed : List ℕ) (last : ℕ) (s : State) → Listed s → (h : ℕ) → Untaken h s.waits (walk_queue n changed last s).reports
    → object_at (walk_queue n changed last s).state.objects h ≡ object_at s.objects h
unfolding walk_queue try_to_serve serve
walk_objects zero changed last s l h = λ u. refl
walk_objects (suc n) changed last s l h = by_option (oldest (λ w. ltb last w.ticket) s.waits) (λ e. rw e (λ u. refl))
    (λ w e. let m : w is_in s.waits = (oldest_some (λ w. ltb last w.ticket) s.waits w e).stands in by_bool (concerned_by changed w)
    (λ y. by_option (attempt s.objects w) (λ a. rw (e, y, a) (walk_objects n changed w.ticket s l h))
    (λ t a. rw (e, y, a) (λ u.
    walk_objects n changed w.ticket (after w t s) (λ v k. l v (dequeue_in _ _ v k).0) h
    (untaken_less h s.waits (dequeue w.ticket s.waits) (walk_queue n changed w.ticket (after w t s)).reports (λ v k. (dequeue_in _ _ v k).0) u.1)
    ∙ acquire_each_other w.owner s.objects t.handles h (rw (grant_taken s.objects w t (l w m) a) (u.0 w m refl (not_timed_out s.objects t))))))
    (λ f. rw (e, f) (walk_objects n changed w.ticket s l h)))

-- a place that does not hold this ticket keeps what it holds
dequeue_other : (t : ℕ) (ws : List WaitPlace) (p : ℕ) → ((w : Wait) → get_or ws p free ≡ waiting w → w.ticket ≡ t → ⊥) → get_or (dequeue t ws) p free ≡ get_or ws p free
unfolding dequeue
dequeue_other t [] p h = refl
dequeue_other t (free ∷ ws) zero h = refl
dequeue_other t (waiting w ∷ ws) zero h = by_bool (eqb w.ticket t) (λ e. absurd (h w refl (eqb-true _ _ e))) (λ n. rw n)
dequeue_other t (free ∷ ws) (suc p) h = dequeue_other t ws p h
dequeue_other t (waiting w ∷ ws) (suc p) h = dequeue_other t ws p h

dequeue_free : (t : ℕ) (ws : List WaitPlace) (p : ℕ) → get_or ws p free ≡ free → get_or (dequeue t ws) p free ≡ free
dequeue_free t ws p e = dequeue_other t ws p (λ w d. differ (let q : free ≡ waiting w = sym e ∙ d in cc)) ∙ e

-- the wait with this ticket is not reported
abbrev pub Unreported : ℕ → List Report → Type 0
Unreported t rs = All (λ r. r.ticket ≡ t → ⊥) rs

stays_after : (t : ℕ) (ws : List WaitPlace) (p : ℕ) (w : Wait) → (t ≡ w.ticket → ⊥) → get_or ws p free ≡ waiting w → get_or (dequeue t ws) p free ≡ waiting w
stays_after t ws p w n e = dequeue_other t ws p (λ v d i. n (sym i ∙ ap (λ (x : Wait). x.ticket) (let q : waiting v ≡ waiting w = sym d ∙ e in let j : v ≡ w = cc in j))) ∙ e

walk_waits : (n : ℕ) (changed : List ℕ) (last : ℕ) (s : State) (p : ℕ) (w : Wait) → get_or s.waits p free ≡ waiting w → Unreported w.ticket (walk_queue n changed last s).reports
    → get_or (walk_queue n changed last s).state.waits p free ≡ waiting w
unfolding walk_queue try_to_serve serve
walk_waits zero changed last s p w e = λ u. e
walk_waits (suc n) changed last s p w e = by_option (oldest (λ w. ltb last w.ticket) s.waits) (λ q. rw q (λ u. e))
    (λ v q. by_bool (concerned_by changed v)
    (λ y. by_option (attempt s.objects v) (λ a. rw (q, y, a) (walk_waits n changed v.ticket s p w e))
    (λ t a. rw (q, y, a) (λ u. walk_waits n changed v.ticket (after v t s) p w (stays_after v.ticket s.waits p w u.0 e) u.1)))
    (λ f. rw (q, f) (walk_waits n changed v.ticket s p w e)))

walk_free : (n : ℕ) (changed : List ℕ) (last : ℕ) (s : State) (p : ℕ) → get_or s.waits p free ≡ free → get_or (walk_queue n changed last s).state.waits p free ≡ free
walk_free n changed last s p e = walk_keeps (λ s. get_or s.waits p free ≡ free) (λ s w t m a k. dequeue_free w.ticket s.waits p k) n changed last s e

-- THE CHANGE: objects
abbrev Same : ℕ → State → State → Type 0
Same h s s' = object_at s'.objects h ≡ object_at s.objects h

one_not : (h k : ℕ) → member h (k ∷ []) ≡ false → eqb h k ≡ false
unfolding member
one_not h k n = (or_split (eqb h k) false n).0

put_same : (s : State) (h k : ℕ) (x : Object) → member h (k ∷ []) ≡ false → Same h s (put_object s k x)
put_same s h k x n = at_put_other s.objects k x h (one_not h k n)

served_touched : (os : List Object) (u : Grant) (l : List ℕ) (h : ℕ) → member h (cond (eqb (served_answer os u) 0 || eqb (served_answer os u) 4) l []) ≡ false → member h l ≡ false
served_touched os u l h = by_bool (any_abandoned os u.handles) (λ e. rw e (λ n. n)) (λ e. rw e (λ n. n))

admits_same : (mode : Mode) (hs : List ℕ) (o f p a t now : ℕ) (s : State) (h : ℕ) → list_too_short mode hs ≡ false
    → member h (touched (wait mode hs o f p a t now) (admits (new_wait mode hs o f a t s.next) now s).answer (admits (new_wait mode hs o f a t s.next) now s).first) ≡ false
    → Same h s (admits (new_wait mode hs o f a t s.next) now s).state
unfolding admits
admits_same mode hs o f p a t now s h l =
    let w : Wait = new_wait mode hs o f a t s.next in
    by_option (attempt s.objects w)
    (λ e. rw e (by_bool (time_up t now) (λ u. rw u (λ n. refl)) (λ u. rw u (λ n. refl))))
    (λ u e. rw e (λ n. acquire_each_other o s.objects u.handles h (rw (grant_taken s.objects w u l e) (served_touched s.objects u _ h n))))

change_same : (op : Operation) (s : State) (h : ℕ) → Accepted (refusals op s) → member h (touched op (change op s).answer (change op s).first) ≡ false → Same h s (change op s).state
unfolding refusals change
change_same (create k x y) s h a n = put_same s h (new_handle s) (new_object k x y) n
change_same (close k) s h a n = put_same s h k empty n
change_same (reset_event k) s h a n = put_same s h k _ n
change_same (read k j) s h a n = refl
change_same (signal how k) s h a n = put_same s h k _ n
change_same (wait mode hs o f p al t now) s h a n = admits_same mode hs o f p al t now s h (fault_free (wait_faults mode hs o f p al s.objects) a.0 0) n
change_same (expire c t) s h a n = ap (λ (os : List Object). object_at os h) (end_each_objects (length s.waits) (due c t) s)
change_same (cancel t) s h a n = refl
change_same snapshot s h a n = refl

-- the event that a pulse clears is the one that it names
clears_signal : (how : Signal) (k h : ℕ) (j : State) → member h (k ∷ []) ≡ false → Same h j (clear (clears_after how k) j)
clears_signal (post add) k h j n = refl
clears_signal (unlock o) k h j n = refl
clears_signal (kill o) k h j n = refl
clears_signal set_event k h j n = refl
clears_signal pulse_event k h j n = put_same j h k _ n

pub clears_none : (w : Wait) (time : ℕ) (s : State) → (admits w time s).clears ≡ 0
unfolding admits
clears_none w time s = by_option (attempt s.objects w) (λ e. rw e (by_bool (time_up w.timeout time) (λ u. rw u) (λ u. rw u))) (λ t e. rw e)

clears_same : (op : Operation) (s : State) (h : ℕ) (j : State) → member h (touched op (change op s).answer (change op s).first) ≡ false → Same h j (clear (change op s).clears j)
unfolding change
clears_same (create k x y) s h j n = refl
clears_same (close k) s h j n = refl
clears_same (reset_event k) s h j n = refl
clears_same (read k i) s h j n = refl
clears_same (signal how k) s h j n = clears_signal how k h j n
clears_same (wait mode hs o f p al t now) s h j n = rw (clears_none (new_wait mode hs o f al t s.next) now s)
clears_same (expire c t) s h j n = refl
clears_same (cancel t) s h j n = refl
clears_same snapshot s h j n = refl

-- a change that wakes leaves the queue as it is
pub admits_quietly : (w : Wait) (time : ℕ) (s : State) → (admits w time s).changed ≡ []
unfolding admits
admits_quietly w time s = by_option (attempt s.objects w) (λ e. rw e (by_bool (time_up w.timeout time) (λ u. rw u) (λ u. rw u))) (λ t e. rw e)

pub change_queue : (op : Operation) (s : State) → ((change op s).changed ≡ []) ⊎ (((change op s).state.waits ≡ s.waits) × ((change op s).reports ≡ []))
unfolding change
change_queue (create k x y) s = inl refl
change_queue (close h) s = inl refl
change_queue (reset_event h) s = inl refl
change_queue (read k h) s = inl refl
change_queue (signal how h) s = inr (refl, refl)
change_queue (wait mode hs o f p al t now) s = inl (admits_quietly (new_wait mode hs o f al t s.next) now s)
change_queue (expire c t) s = inl refl
change_queue (cancel t) s = inl refl
change_queue snapshot s = inl refl

listed_valid : (s : State) → Valid s → Listed s
listed_valid s g w m = let (t0, (t1, (t2, (t3, (t4, r))))) = passed _ (g.waits w m) in not-true _ t4

-- EVERY CALL: objects
pub step_objects : (s : State) (c : Call) (h : ℕ) → Valid s → member h (touched c.operation (library_step s c).answer (library_step s c).first) ≡ false
    → Untaken h s.waits (library_step s c).reports → object_at (library_step s c).held.objects h ≡ object_at s.objects h
unfolding library_step
step_objects s c h g = perform_case wake_by_walk s c
    (λ o. member h (touched c.operation o.answer o.first) ≡ false → Untaken h s.waits o.reports → object_at o.held.objects h ≡ object_at s.objects h)
    (λ n e m u. refl)
    (λ a m u. let d : Change = change c.operation s in
    clears_same c.operation s h (wake_by_walk d.changed d.state).state m ∙ woken d (change_queue c.operation s) u ∙ change_same c.operation s h a.1 m)
  where
    woken : (d : Change) → (d.changed ≡ []) ⊎ ((d.state.waits ≡ s.waits) × (d.reports ≡ [])) → Untaken h s.waits (d.reports ++ (wake_by_walk d.changed d.state).reports)
        → object_at (wake_by_walk d.changed d.state).state.objects h ≡ object_at d.state.objects h
    woken d (inl e) u = rw (e, walk_nothing (length d.state.waits) 0 d.state)
    woken d (inr q) u = let e = q.0 in walk_objects (length d.state.waits) d.changed 0 d.state (λ w m. listed_valid s g w (subst (λ (ws : List WaitPlace). w is_in ws) e m)) h
        (untaken_less h s.waits d.state.waits (wake_by_walk d.changed d.state).reports (λ w m. subst (λ (ws : List WaitPlace). w is_in ws) e m) (all_right _ d.reports (wake_by_walk d.changed d.state).reports u))

-- THE CHANGE: waits
enqueue_stays : (v : Wait) (ws : List WaitPlace) (p : ℕ) (w : Wait) → get_or ws p free ≡ waiting w → get_or (enqueue v ws) p free ≡ waiting w
unfolding enqueue
enqueue_stays v [] p w e = e
enqueue_stays v (free ∷ ws) zero w e = differ (cc)
enqueue_stays v (waiting u ∷ ws) zero w e = e
enqueue_stays v (free ∷ ws) (suc p) w e = e
enqueue_stays v (waiting u ∷ ws) (suc p) w e = enqueue_stays v ws p w e

-- queuing uses the lowest free place and no other
enqueue_free : (v : Wait) (ws : List WaitPlace) (p : ℕ) → get_or ws p free ≡ free → (get_or (enqueue v ws) p free ≡ free) ⊎ ((j : ℕ) → j < p → get_or ws j free ≡ free → ⊥)
unfolding enqueue
enqueue_free v [] p e = inl refl
enqueue_free v (free ∷ ws) zero e = inr (λ j l. absurd (let z : ⊥ = omega arith in z))
enqueue_free v (waiting u ∷ ws) zero e = inl e
enqueue_free v (free ∷ ws) (suc p) e = inl e
enqueue_free v (waiting u ∷ ws) (suc p) e = ⊎_elim (λ q. inl q) (λ (q : (j : ℕ) → j < p → get_or ws j free ≡ free → ⊥). inr (lowest q)) (enqueue_free v ws p e)
  where
    lowest : ((j : ℕ) → j < p → get_or ws j free ≡ free → ⊥) → (j : ℕ) → j < suc p → get_or (waiting u ∷ ws) j free ≡ free → ⊥
    lowest q zero l d = differ (cc)
    lowest q (suc j) l d = q j (omega arith) d

end_each_stays : (n : ℕ) (f : Wait → Bool) (s : State) (p : ℕ) (w : Wait) → get_or s.waits p free ≡ waiting w → Unreported w.ticket (end_each n f s).reports → get_or (end_each n f s).state.waits p free ≡ waiting w
unfolding end_each
end_each_stays zero f s p w e = λ u. e
end_each_stays (suc n) f s p w e = by_option (oldest f s.waits) (λ q. rw q (λ u. e))
    (λ v q. rw q (λ u. end_each_stays n f (with_waits s (dequeue v.ticket s.waits)) p w (stays_after v.ticket s.waits p w u.0 e) u.1))

end_each_free : (n : ℕ) (f : Wait → Bool) (s : State) (p : ℕ) → get_or s.waits p free ≡ free → get_or (end_each n f s).state.waits p free ≡ free
unfolding end_each
end_each_free zero f s p e = e
end_each_free (suc n) f s p e = by_option (oldest f s.waits) (λ q. rw q e)
    (λ v q. rw q (end_each_free n f (with_waits s (dequeue v.ticket s.waits)) p (dequeue_free v.ticket s.waits p e)))

admits_stays : (v : Wait) (time : ℕ) (s : State) (p : ℕ) (w : Wait) → get_or s.waits p free ≡ waiting w → get_or (admits v time s).state.waits p free ≡ waiting w
unfolding admits
admits_stays v time s p w e = by_option (attempt s.objects v)
    (λ a. rw a (by_bool (time_up v.timeout time) (λ u. rw u e) (λ u. rw u (enqueue_stays v s.waits p w e)))) (λ t a. rw a e)

-- the call queued its wait in place p, the lowest free one
abbrev pub UsedPlace : State → ℕ → ℕ → Type 0
UsedPlace s a p = (a ≡ 11) × ((j : ℕ) → j < p → get_or s.waits j free ≡ free → ⊥)

admits_free : (v : Wait) (time : ℕ) (s : State) (p : ℕ) → get_or s.waits p free ≡ free
    → (get_or (admits v time s).state.waits p free ≡ free) ⊎ UsedPlace s (admits v time s).answer p
unfolding admits
admits_free v time s p e = by_option (attempt s.objects v)
    (λ a. rw a (by_bool (time_up v.timeout time) (λ u. rw u (inl e)) (λ u. rw u (⊎_elim (λ q. inl q) (λ q. inr (refl, q)) (enqueue_free v s.waits p e))))) (λ t a. rw a (inl e))

change_stays : (op : Operation) (s : State) (p : ℕ) (w : Wait) → (op ≡ cancel w.ticket → ⊥) → get_or s.waits p free ≡ waiting w → Unreported w.ticket (change op s).reports
    → get_or (change op s).state.waits p free ≡ waiting w
unfolding change
change_stays (create k x y) s p w n e u = e
change_stays (close h) s p w n e u = e
change_stays (reset_event h) s p w n e u = e
change_stays (read k h) s p w n e u = e
change_stays (signal how h) s p w n e u = e
change_stays (wait mode hs o f q al t now) s p w n e u = admits_stays (new_wait mode hs o f al t s.next) now s p w e
change_stays (expire c t) s p w n e u = end_each_stays (length s.waits) (due c t) s p w e u
change_stays (cancel t) s p w n e u = stays_after t s.waits p w (λ i. n (ap cancel i)) e
change_stays snapshot s p w n e u = e

change_free : (op : Operation) (s : State) (p : ℕ) → get_or s.waits p free ≡ free → (get_or (change op s).state.waits p free ≡ free) ⊎ UsedPlace s (change op s).answer p
unfolding change
change_free (create k x y) s p e = inl e
change_free (close h) s p e = inl e
change_free (reset_event h) s p e = inl e
change_free (read k h) s p e = inl e
change_free (signal how h) s p e = inl e
change_free (wait mode hs o f q al t now) s p e = admits_free (new_wait mode hs o f al t s.next) now s p e
change_free (expire c t) s p e = inl (end_each_free (length s.waits) (due c t) s p e)
change_free (cancel t) s p e = inl (dequeue_free t s.waits p e)
change_free snapshot s p e = inl e

all_left : {A : Type 0} (P : A → Type 0) (xs ys : List A) → All P (xs ++ ys) → All P xs
all_left P [] ys a = tt
all_left P (x ∷ xs) ys a = (a.0, all_left P xs ys a.1)

-- EVERY CALL: waits
pub step_stays : (s : State) (c : Call) (p : ℕ) (w : Wait) → get_or s.waits p free ≡ waiting w → (c.operation ≡ cancel w.ticket → ⊥)
    → Unreported w.ticket (library_step s c).reports → get_or (library_step s c).held.waits p free ≡ waiting w
unfolding library_step
step_stays s c p w e n = perform_case wake_by_walk s c (λ o. Unreported w.ticket o.reports → get_or o.held.waits p free ≡ waiting w)
    (λ k r u. e)
    (λ a u. let d : Change = change c.operation s in walk_waits (length d.state.waits) d.changed 0 d.state p w
    (change_stays c.operation s p w n e (all_left _ d.reports _ u)) (all_right _ d.reports _ u))

pub step_free : (s : State) (c : Call) (p : ℕ) → get_or s.waits p free ≡ free → (get_or (library_step s c).held.waits p free ≡ free) ⊎ UsedPlace s (library_step s c).answer p
unfolding library_step
step_free s c p e = perform_case wake_by_walk s c (λ o. (get_or o.held.waits p free ≡ free) ⊎ UsedPlace s o.answer p)
    (λ k r. inl e)
    (λ a. let d : Change = change c.operation s in ⊎_elim (λ q. inl (walk_free (length d.state.waits) d.changed 0 d.state p q)) (λ q. inr q) (change_free c.operation s p e))
