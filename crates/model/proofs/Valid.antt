-- Valid states as a record of facts, and that every change and every walk leaves one: the library never finds its own
-- tables corrupt.
use mathlib.Core.Path.{◌≡◌, refl, ap, sym, ◌∙◌, subst}
use mathlib.Core.Bool.{Bool, true, false, not, ◌&&◌, ◌||◌}
use mathlib.Core.List.{List, [], ◌∷◌}
use mathlib.Core.Option.{none, some}
use mathlib.Core.Logic.{inl, inr, ⊎_elim}
use Prim.Native.Nat.{ℕ, zero, suc, pred, ◌+◌, ◌^◌, ◌≤◌, ◌<◌}
use native.Mathlib.Omega.{arith}
use lib.ListN.{length, get_or, length-set}
use lib.Dec.{eqb, ltb, eqb-suc-zero}
use borrow.Author.Tests.{ltb-true, ltb-false, leb-true, eqb-true, eqb-false, not-true, not-false, lt-ltb, le-leb, ne_eqb}
use Rattle.model.specs.Basics.{any_of, member, has_repeat}
use Rattle.model.specs.Calls.{Operation, create, close, reset_event, read, signal, wait, expire, cancel, snapshot, Lent, Call, new_object, new_handle, all_occupied, repeats, wait_faults, time_up, new_wait, must_queue, enqueue, refusals, Change, admits, end_each, change, WithinWidths}
use Rattle.model.specs.Layout.{valid_object, valid_wait, distinct_tickets}
use Rattle.model.specs.Sizes.{object_places, wait_places, word32, word64, tickets_end, mutex_ceiling}
use Rattle.model.specs.Objects.{Object, empty, semaphore, mutex, event, occupied, is_event, signaled, acquired, cleared}
use Rattle.model.specs.Steps.{library_step}
use Rattle.model.specs.Notions.{◌is_in◌}
use Rattle.model.specs.Waits.{Mode, any, all, Wait, WaitPlace, free, waiting, State, with_objects, with_waits, object_at, put_at, put_object, Grant, lowest_signaled, all_signaled, look, attempt, acquire_each, dequeue, oldest, any_waiting, named_by, concerned_by, walk_queue, wake_by_walk}
use Rattle.model.proofs.Waking.{Consistent, walk_keeps}
use Rattle.model.proofs.Logic.{by_bool, by_option, is_some, clash, differ, ◌implies◌, and_split, or_left, or_right, or_mono, or_split, eqb_same, passed, pass, fault_free}
use Rattle.model.proofs.Rules.{Accepted, clear, due, perform_case, Keeps, signal_keeps, reset_keeps, new_valid, new_place}
use Rattle.model.proofs.Acquiring.{at_put, at_put_other, acquire_at, attempt_signaled}
use Rattle.model.proofs.Queue.{oldest_none, Distinct, oldest_is_none, dequeue_in, enqueue_in, concerned_one}

pub record Valid (s : State) : Type 0 where
  pub places : length s.objects ≡ object_places
  pub slots : length s.waits ≡ wait_places
  pub objects : (h : ℕ) → valid_object (object_at s.objects h) ≡ true
  pub waits : (w : Wait) → w is_in s.waits → valid_wait s.objects w ≡ true
  pub tickets : (w : Wait) → w is_in s.waits → (0 < w.ticket) × (w.ticket < s.next)
  pub distinct : distinct_tickets s.waits ≡ true
  pub started : 0 < s.next
  pub bounded : s.next < word64

-- ACQUIRING keeps an object valid
acquired_valid : (o : ℕ) (x : Object) → (o ≡ 0 → ⊥) → o < 2 ^ 32 → signaled o x ≡ true → valid_object x ≡ true → valid_object (acquired o x) ≡ true
acquired_valid o empty z l e g = g
acquired_valid o (semaphore c m) z l e g = let (t0, t1) = passed _ g in let b : c ≤ m = leb-true c m t0 in pass _ (le-leb (pred c) m (omega arith), t1)
acquired_valid o (mutex w c a) z l e g =
    let r = and_split (eqb w 0 || eqb w o) (ltb c mutex_ceiling) e in let h : c < mutex_ceiling = ltb-true c mutex_ceiling r.1 in
    pass _ (lt-ltb o word32 l, (lt-ltb (suc c) word32 (omega arith), (rw (ne_eqb o 0 z, eqb-suc-zero c), (refl, tt))))
acquired_valid o (event s true) z l e g = g
acquired_valid o (event s false) z l e g = refl

abbrev pub AllValid : List Object → Type 0
AllValid os = (h : ℕ) → valid_object (object_at os h) ≡ true

pub put_valid : (os : List Object) (h : ℕ) (x : Object) → AllValid os → valid_object x ≡ true → AllValid (put_at os h x)
put_valid os h x g e k = ⊎_elim (λ (q : object_at (put_at os h x) k ≡ object_at os k). rw q (g k)) (λ (q : (k ≡ h) × (object_at (put_at os h x) k ≡ x)). let r = q.1 in rw r e) (at_put os h x k)

pub length_put_at : (os : List Object) (h : ℕ) (x : Object) → length (put_at os h x) ≡ length os
length_put_at os zero x = refl
length_put_at os (suc i) x = length-set os i x

acquire_each_valid : (o : ℕ) (os : List Object) (hs : List ℕ) → (o ≡ 0 → ⊥) → o < 2 ^ 32 → has_repeat hs ≡ false → ((h : ℕ) → member h hs implies signaled o (object_at os h)) → AllValid os → AllValid (acquire_each o os hs)
unfolding acquire_each member has_repeat
acquire_each_valid o os [] z l d e g = g
acquire_each_valid o os (h ∷ hs) z l d e g = let r = or_split (member h hs) (has_repeat hs) d in
    acquire_each_valid o (acquire_at o os h) hs z l r.1
    (λ j i. let n : eqb j h ≡ false = by_bool (eqb j h) (λ t. clash i (rw (eqb-true j h t) r.0)) (λ f. f) in
    rw (at_put_other os h (acquired o (object_at os h)) j n) (e j (or_right (eqb j h) (member j hs) i)))
    (put_valid os h (acquired o (object_at os h)) g (acquired_valid o (object_at os h) z l (e h (or_left (eqb h h) (member h hs) (eqb_same h))) (g h)))

length_acquire_each : (o : ℕ) (os : List Object) (hs : List ℕ) → length (acquire_each o os hs) ≡ length os
unfolding acquire_each
length_acquire_each o os [] = refl
length_acquire_each o os (h ∷ hs) = length_acquire_each o (acquire_at o os h) hs ∙ length_put_at os h _

-- what waits ask of an object goes on to hold
abbrev pub Still : Object → Object → Type 0
Still x y = (occupied x implies occupied y) × (is_event x implies is_event y)

still_refl : (x : Object) → Still x x
still_refl x = (λ e. e, λ e. e)

still_acquired : (o : ℕ) (x : Object) → Still x (acquired o x)
still_acquired o empty = (λ e. e, λ e. e)
still_acquired o (semaphore c m) = (λ e. e, λ e. e)
still_acquired o (mutex w c a) = (λ e. e, λ e. e)
still_acquired o (event s true) = (λ e. e, λ e. e)
still_acquired o (event s false) = (λ e. e, λ e. e)

still_cleared : (x : Object) → Still x (cleared x)
still_cleared empty = (λ e. e, λ e. e)
still_cleared (semaphore c m) = (λ e. e, λ e. e)
still_cleared (mutex w c a) = (λ e. e, λ e. e)
still_cleared (event s m) = (λ e. e, λ e. e)

pub still_put_at : (os : List Object) (h : ℕ) (x : Object) → Still (object_at os h) x → (k : ℕ) → Still (object_at os k) (object_at (put_at os h x) k)
still_put_at os h x t k = ⊎_elim
    (λ (q : object_at (put_at os h x) k ≡ object_at os k). rw q (still_refl (object_at os k)))
    (λ (q : (k ≡ h) × (object_at (put_at os h x) k ≡ x)). let a = q.1 in let b = q.0 in rw (a, b) t) (at_put os h x k)

pub still_acquire_each : (o : ℕ) (os : List Object) (hs : List ℕ) (k : ℕ) → Still (object_at os k) (object_at (acquire_each o os hs) k)
unfolding acquire_each
still_acquire_each o os [] k = still_refl (object_at os k)
still_acquire_each o os (h ∷ hs) k = let a = still_put_at os h (acquired o (object_at os h)) (still_acquired o (object_at os h)) k in let b = still_acquire_each o (acquire_at o os h) hs k in
    (λ e. b.0 (a.0 e), λ e. b.1 (a.1 e))

all_occupied_mono : (os os' : List Object) (hs : List ℕ) → ((h : ℕ) → member h hs ≡ true → Still (object_at os h) (object_at os' h)) → all_occupied os hs implies all_occupied os' hs
unfolding all_occupied member
all_occupied_mono os os' [] t e = refl
all_occupied_mono os os' (h ∷ hs) t e = let r = and_split (occupied (object_at os h)) (all_occupied os hs) e in
    rw ((t h (or_left (eqb h h) (member h hs) (eqb_same h))).0 r.0, all_occupied_mono os os' hs (λ k i. t k (or_right (eqb k h) (member k hs) i)) r.1)

valid_wait_mono : (os os' : List Object) (w : Wait) → ((h : ℕ) → member h (named_by w) ≡ true → Still (object_at os h) (object_at os' h)) → valid_wait os w implies valid_wait os' w
unfolding member
valid_wait_mono os os' w t e = let (t0, (t1, (t2, (t3, (t4, (t5, (t6, (t7, (t8, t9))))))))) = passed _ e in
    pass _ (
      t0,
      (
        t1,
        (
          t2,
          (
            t3,
            (
              t4,
              (
                t5,
                (
                  all_occupied_mono os os' w.list (λ h i. t h (or_right (eqb h w.alert) (member h w.list) i)) t6,
                  (
                    or_mono (eqb w.alert 0) (is_event (object_at os w.alert)) (eqb w.alert 0) (is_event (object_at os' w.alert)) (λ z. z) (t w.alert (or_left (eqb w.alert w.alert) (member w.alert w.list) (eqb_same w.alert))).1 t7,
                    (t8, tt),
                  ),
                ),
              ),
            ),
          ),
        ),
      ),
    )

pub valid_objects : (s : State) (os : List Object) → Valid s → length os ≡ length s.objects → AllValid os → ((w : Wait) → w is_in s.waits → (k : ℕ) → member k (named_by w) ≡ true → Still (object_at s.objects k) (object_at os k)) → Valid (with_objects s os)
valid_objects s os g l a t = record {
  places = l ∙ g.places;
  slots = g.slots;
  objects = a;
  waits = λ w m. valid_wait_mono s.objects os w (t w m) (g.waits w m);
  tickets = g.tickets;
  distinct = g.distinct;
  started = g.started;
  bounded = g.bounded;
}

pub valid_put : (s : State) (h : ℕ) (x : Object) → Valid s → valid_object x ≡ true → Still (object_at s.objects h) x → Valid (put_object s h x)
valid_put s h x g e t = valid_objects s (put_at s.objects h x) g (length_put_at s.objects h x) (put_valid s.objects h x g.objects e) (λ w m k i. still_put_at s.objects h x t k)

-- THE QUEUE
pub none_waiting : (f : Wait → Bool) (ws : List WaitPlace) → ((w : Wait) → w is_in ws → f w ≡ false) → any_waiting f ws ≡ false
none_waiting f ws h = ap is_some (oldest_is_none f ws h)

pub waiting_none : (f : Wait → Bool) (ws : List WaitPlace) → any_waiting f ws ≡ false → (w : Wait) → w is_in ws → f w ≡ false
waiting_none f ws e = oldest_none f ws (by_option (oldest f ws) (λ n. n) (λ w q. clash (ap is_some q) e))

pub length_dequeue : (t : ℕ) (ws : List WaitPlace) → length (dequeue t ws) ≡ length ws
unfolding dequeue
length_dequeue t [] = refl
length_dequeue t (free ∷ ws) = ap suc (length_dequeue t ws)
length_dequeue t (waiting w ∷ ws) = ap suc (length_dequeue t ws)

pub length_enqueue : (w : Wait) (ws : List WaitPlace) → length (enqueue w ws) ≡ length ws
unfolding enqueue
length_enqueue w [] = refl
length_enqueue w (free ∷ ws) = refl
length_enqueue w (waiting v ∷ ws) = ap suc (length_enqueue w ws)

pub distinct_dequeue : (t : ℕ) (ws : List WaitPlace) → distinct_tickets ws ≡ true → distinct_tickets (dequeue t ws) ≡ true
unfolding distinct_tickets dequeue
distinct_dequeue t [] e = e
distinct_dequeue t (free ∷ ws) e = distinct_dequeue t ws e
distinct_dequeue t (waiting w ∷ ws) e = let r = and_split (not (any_waiting (λ v. eqb v.ticket w.ticket) ws)) (distinct_tickets ws) e in by_bool (eqb w.ticket t)
    (λ y. rw y (distinct_dequeue t ws r.1))
    (λ n. rw n (
    let k : any_waiting (λ v. eqb v.ticket w.ticket) (dequeue t ws) ≡ false = none_waiting _ (dequeue t ws) (λ v m. waiting_none (λ v. eqb v.ticket w.ticket) ws (not-true _ r.0) v (dequeue_in t ws v m).0) in
    rw (k, distinct_dequeue t ws r.1)))

pub distinct_enqueue : (w : Wait) (ws : List WaitPlace) → ((v : Wait) → v is_in ws → v.ticket ≡ w.ticket → ⊥) → distinct_tickets ws ≡ true → distinct_tickets (enqueue w ws) ≡ true
unfolding distinct_tickets enqueue
distinct_enqueue w [] h e = e
distinct_enqueue w (free ∷ ws) h e =
    let k : any_waiting (λ v. eqb v.ticket w.ticket) ws ≡ false = none_waiting _ ws (λ v m. by_bool (eqb v.ticket w.ticket) (λ t. absurd (h v m (eqb-true _ _ t))) (λ f. f)) in rw (k, e)
distinct_enqueue w (waiting u ∷ ws) h e = let r = and_split (not (any_waiting (λ v. eqb v.ticket u.ticket) ws)) (distinct_tickets ws) e in
    let k : any_waiting (λ v. eqb v.ticket u.ticket) (enqueue w ws) ≡ false = none_waiting _ (enqueue w ws) (λ v m. ⊎_elim
    (λ (p : v ≡ w). by_bool (eqb v.ticket u.ticket) (λ t. absurd (h u (inl refl) (sym (eqb-true _ _ t) ∙ ap (λ (x : Wait). x.ticket) p))) (λ f. f))
    (λ m'. waiting_none (λ v. eqb v.ticket u.ticket) ws (not-true _ r.0) v m') (enqueue_in w ws v m)) in
    rw (k, distinct_enqueue w ws (λ v m. h v (inr m)) r.1)

pub valid_dequeue : (s : State) (t : ℕ) → Valid s → Valid (with_waits s (dequeue t s.waits))
valid_dequeue s t g = record {
  places = g.places;
  slots = length_dequeue t s.waits ∙ g.slots;
  objects = g.objects;
  waits = λ w m. g.waits w (dequeue_in t s.waits w m).0;
  tickets = λ w m. g.tickets w (dequeue_in t s.waits w m).0;
  distinct = distinct_dequeue t s.waits g.distinct;
  started = g.started;
  bounded = g.bounded;
}

-- WHAT AN ATTEMPT TAKES
pub lowest_index : (o : ℕ) (os : List Object) (j : ℕ) (hs : List ℕ) (t : Grant) → lowest_signaled o os j hs ≡ some t
    → (i : ℕ) × (t.index ≡ j + i) × (i < length hs) × (t.handles ≡ get_or hs i 0 ∷ [])
unfolding lowest_signaled
lowest_index o os j [] t e = differ (cc)
lowest_index o os j (h ∷ hs) t e = by_bool (signaled o (object_at os h))
    (λ s. let q : some record { handles = h ∷ []; index = j } ≡ some t = rw s at e in
    let r : record { handles = h ∷ []; index = j } ≡ t = cc in
    (0, (let z : j ≡ t.index = ap (λ (x : Grant). x.index) r in omega arith), omega arith, ap (λ (x : Grant). x.handles) (sym r)))
    (λ n. let r = lowest_index o os (suc j) hs t (rw n at e) in let z : t.index ≡ suc j + r.0 = r.1 in let y : r.0 < length hs = r.2 in (suc r.0, omega arith, omega arith, r.3))

-- what an attempt takes, it takes once
pub look_once : (mode : Mode) (o : ℕ) (os : List Object) (a : ℕ) (hs : List ℕ) (t : Grant) → repeats mode (a ∷ hs) ≡ false → look mode o os hs ≡ some t → has_repeat t.handles ≡ false
unfolding look has_repeat member
look_once any o os a hs t d e = let r = lowest_index o os 0 hs t e in let q : t.handles ≡ get_or hs r.0 0 ∷ [] = r.3 in rw q
look_once all o os a hs t d e = by_bool (all_signaled o os hs)
    (λ s. let q : some record { handles = hs; index = 0 } ≡ some t = rw s at e in let r : record { handles = hs; index = 0 } ≡ t = cc in
    subst (λ (x : Grant). has_repeat x.handles ≡ false) r (or_split (member a hs) (has_repeat hs) d).1)
    (λ n. differ (let q : none ≡ some t = rw n at e in cc))

pub attempt_once : (os : List Object) (w : Wait) (t : Grant) → repeats w.mode (w.alert ∷ w.list) ≡ false → attempt os w ≡ some t → has_repeat t.handles ≡ false
unfolding attempt has_repeat member
attempt_once os w t d e = by_option (look w.mode w.owner os w.list)
    (λ n. by_bool (signaled w.owner (object_at os w.alert))
    (λ s. let q : some record { handles = w.alert ∷ []; index = length w.list } ≡ some t = rw (n, s) at e in
    let r : record { handles = w.alert ∷ []; index = length w.list } ≡ t = cc in
    subst (λ (x : Grant). has_repeat x.handles ≡ false) r refl)
    (λ f. differ (let q : none ≡ some t = rw (n, f) at e in cc)))
    (λ x s. let q : some x ≡ some t = rw s at e in look_once w.mode w.owner os w.alert w.list t d (s ∙ q))

-- a good wait's attempt keeps the objects sound, queued or not
pub valid_take : (s : State) (w : Wait) (t : Grant) → Valid s → valid_wait s.objects w ≡ true → attempt s.objects w ≡ some t → Valid (with_objects s (acquire_each w.owner s.objects t.handles))
valid_take s w t g v e = let (t0, (t1, (t2, (t3, (t4, (t5, (t6, (t7, (t8, t9))))))))) = passed _ v in
    valid_objects s (acquire_each w.owner s.objects t.handles) g (length_acquire_each w.owner s.objects t.handles)
    (acquire_each_valid w.owner s.objects t.handles (eqb-false w.owner 0 (not-true _ t0)) (ltb-true w.owner word32 t1)
    (attempt_once s.objects w t (not-true _ t8) e) (attempt_signaled s.objects w t e) g.objects)
    (λ u m k i. still_acquire_each w.owner s.objects t.handles k)

-- a walk keeps the state valid
pub walk_valid : (n : ℕ) (changed : List ℕ) (last : ℕ) (s : State) → Valid s → Valid (walk_queue n changed last s).state
walk_valid n changed last s g = walk_keeps Valid (λ s w t m e g. valid_dequeue (with_objects s (acquire_each w.owner s.objects t.handles)) w.ticket (valid_take s w t g (g.waits w m) e)) n changed last s g

cleared_valid : (x : Object) → valid_object x ≡ true → valid_object (cleared x) ≡ true
cleared_valid empty e = e
cleared_valid (semaphore c m) e = e
cleared_valid (mutex o c a) e = e
cleared_valid (event v m) e = e

pub valid_clear : (h : ℕ) (s : State) → Valid s → Valid (clear h s)
valid_clear h s g = valid_put s h (cleared (object_at s.objects h)) g (cleared_valid (object_at s.objects h) (g.objects h)) (still_cleared (object_at s.objects h))

end_each_valid : (n : ℕ) (f : Wait → Bool) (s : State) → Valid s → Valid (end_each n f s).state
unfolding end_each
end_each_valid zero f s g = g
end_each_valid (suc n) f s g = by_option (oldest f s.waits) (λ e. rw e g)
    (λ w e. rw e (end_each_valid n f (with_waits s (dequeue w.ticket s.waits)) (valid_dequeue s w.ticket g)))

-- an occupied handle is a handle
pub in_places : (os : List Object) (h : ℕ) → occupied (object_at os h) ≡ true → (1 ≤ h) × (h ≤ length os)
in_places os zero e = clash e refl
in_places [] (suc i) e = clash e refl
in_places (x ∷ xs) (suc zero) e = (omega arith, omega arith)
in_places (x ∷ xs) (suc (suc i)) e = let r = in_places xs (suc i) e in let a : suc i ≤ length xs = r.1 in (omega arith, omega arith)

-- EVERY CHANGE of a call that is not refused leaves a valid state
create_valid : (s : State) (x : Object) → Valid s → valid_object x ≡ true → Valid (put_object s (new_handle s) x)
create_valid s x g e = valid_put s (new_handle s) x g e
    (subst (λ (y : Object). Still y x) (sym (new_place s).0) (λ y. clash y refl, λ y. clash y refl))

pub keeps_valid : (s : State) (h : ℕ) (x : Object) → Valid s → Keeps (object_at s.objects h) x → Valid (put_object s h x)
keeps_valid s h x g k = valid_put s h x g (k.valid (g.objects h)) (λ z. k.there, k.event)

close_valid : (h : ℕ) (s : State) → Valid s → any_waiting (concerned_by (h ∷ [])) s.waits ≡ false → Valid (put_object s h empty)
close_valid h s g b = valid_objects s (put_at s.objects h empty) g (length_put_at s.objects h empty) (put_valid s.objects h empty g.objects refl)
    (λ w m k i. let d : eqb k h ≡ false = by_bool (eqb k h) (λ t. clash i (rw (eqb-true k h t) (concerned_one h w (waiting_none (concerned_by (h ∷ [])) s.waits b w m)))) (λ f. f) in
    rw (at_put_other s.objects h empty k d) (still_refl (object_at s.objects k)))

-- a wait whose arguments are in order is valid
pub new_wait_valid : (mode : Mode) (hs : List ℕ) (o f p a t : ℕ) (s : State) → o < word32 → t < word64 → any_of (wait_faults mode hs o f p a s.objects) ≡ false
    → valid_wait s.objects (new_wait mode hs o f a t s.next) ≡ true
new_wait_valid mode hs o f p a t s lo lt e =
    let ok : (i : ℕ) → get_or (wait_faults mode hs o f p a s.objects) i false ≡ false = fault_free (wait_faults mode hs o f p a s.objects) e in
    pass _ (
      rw (ok 3),
      (
        lt-ltb o word32 lo,
        (
          lt-ltb f 2 (let z : f ≤ 1 = ltb-false 1 f (ok 4) in omega arith),
          (
            lt-ltb t word64 lt,
            (rw (ok 0), (rw (ok 1), (not-false _ (ok 2), (not-false _ (ok 6), (rw (ok 7), tt))))),
          ),
        ),
      ),
    )

admits_valid : (w : Wait) (time : ℕ) (s : State) → Valid s → valid_wait s.objects w ≡ true → w.ticket ≡ s.next
    → (must_queue w time s && eqb s.next tickets_end) ≡ false → Valid (admits w time s).state
unfolding admits
admits_valid w time s g v k r = by_option (attempt s.objects w)
    (λ e. rw e (by_bool (time_up w.timeout time) (λ t. rw t g)
    (λ f. let left : eqb s.next tickets_end ≡ false = (let q : (not (is_some (attempt s.objects w)) && not (time_up w.timeout time) && eqb s.next tickets_end) ≡ false = r in rw (e, f) at q) in rw f record {
      places = g.places;
      slots = length_enqueue w s.waits ∙ g.slots;
      objects = g.objects;
      waits = λ u m. ⊎_elim (λ (p : u ≡ w). rw p v) (λ j. g.waits u j) (enqueue_in w s.waits u m);
      tickets = λ u m. ⊎_elim (λ (p : u ≡ w). let z = g.started in rw (p, k) (omega arith)) (λ (j : u is_in s.waits). let z = g.tickets u j in (z.0, (let q : u.ticket < s.next = z.1 in omega arith))) (enqueue_in w s.waits u m);
      distinct = distinct_enqueue w s.waits (λ u m q. let z : u.ticket < s.next = (g.tickets u m).1 in let w' : ⊥ = omega arith in w') g.distinct;
      started = let z = g.started in omega arith;
      bounded = let z = g.bounded in let y : s.next ≡ tickets_end → ⊥ = eqb-false s.next tickets_end left in omega (arith, y);
    })))
    (λ t e. rw e (valid_take s w t g v e))

pub change_valid : (op : Operation) (l : Lent) (s : State) → WithinWidths (record { operation = op; lent = l }) → Accepted (refusals op s) → Valid s → Valid (change op s).state
unfolding refusals change
change_valid (create k x y) l s fit a g = create_valid s (new_object k x y) g (new_valid k x y fit.0.0 fit.0.1.0 a.0)
change_valid (close h) l s fit a g = close_valid h s g a.1.0
change_valid (reset_event h) l s fit a g = keeps_valid s h _ g (reset_keeps (object_at s.objects h) a)
change_valid (read k h) l s fit a g = g
change_valid (signal how h) l s fit a g = keeps_valid s h _ g (signal_keeps how (object_at s.objects h) a)
change_valid (wait mode hs o f p al t now) l s fit a g = admits_valid (new_wait mode hs o f al t s.next) now s g (new_wait_valid mode hs o f p al t s fit.0.0 fit.1.0 a.0) refl a.1.1.0
change_valid (expire c t) l s fit a g = end_each_valid (length s.waits) (due c t) s g
change_valid (cancel t) l s fit a g = valid_dequeue s t g
change_valid snapshot l s fit a g = g

-- EVERY CALL leaves a valid state
pub step_valid : (s : State) (c : Call) → WithinWidths c → Valid s → Valid (library_step s c).held
unfolding library_step
step_valid s c fit g = perform_case wake_by_walk s c (λ o. Valid o.held) (λ n e. g)
    (λ a. let d : Change = change c.operation s in valid_clear d.clears (wake_by_walk d.changed d.state).state
    (walk_valid (length d.state.waits) d.changed 0 d.state (change_valid c.operation c.lent s fit a.1 g)))

-- WHAT THE WAKING ASKS of a state
pub distinct_tickets_lem : (ws : List WaitPlace) → distinct_tickets ws ≡ true → Distinct ws
unfolding distinct_tickets
distinct_tickets_lem [] a v w m k e = absurd m
distinct_tickets_lem (free ∷ ws) a v w m k e = distinct_tickets_lem ws a v w m k e
distinct_tickets_lem (waiting u ∷ ws) a v w m k e = let r = and_split (not (any_waiting (λ x. eqb x.ticket u.ticket) ws)) (distinct_tickets ws) a in
    let other : (x : Wait) → x is_in ws → x.ticket ≡ u.ticket → ⊥ = λ x j i. eqb-false x.ticket u.ticket (waiting_none (λ x. eqb x.ticket u.ticket) ws (not-true _ r.0) x j) i in
    ⊎_elim
    (λ (p : v ≡ u). ⊎_elim (λ (q : w ≡ u). p ∙ sym q) (λ (j : w is_in ws). absurd (other w j (sym e ∙ ap (λ (x : Wait). x.ticket) p))) k)
    (λ (i : v is_in ws). ⊎_elim (λ (q : w ≡ u). absurd (other v i (e ∙ ap (λ (x : Wait). x.ticket) q))) (λ (j : w is_in ws). distinct_tickets_lem ws r.1 v w i j e) k) m

pub all_occupied_in : (os : List Object) (hs : List ℕ) → all_occupied os hs ≡ true → (h : ℕ) → member h hs ≡ true → occupied (object_at os h) ≡ true
unfolding all_occupied member
all_occupied_in os [] e h m = clash m refl
all_occupied_in os (k ∷ ks) e h m = let r = and_split (occupied (object_at os k)) (all_occupied os ks) e in by_bool (eqb h k)
    (λ t. rw (eqb-true h k t) r.0) (λ n. all_occupied_in os ks r.1 h (rw n at m))

pub event_occupied : (x : Object) → is_event x implies occupied x
event_occupied empty e = e
event_occupied (semaphore c m) e = refl
event_occupied (mutex o c a) e = refl
event_occupied (event t m) e = refl

-- the handles that a valid wait names are 0 or occupied
pub named_there : (os : List Object) (w : Wait) → valid_wait os w ≡ true → (h : ℕ) → member h (named_by w) ≡ true → (eqb h 0 || occupied (object_at os h)) ≡ true
unfolding member
named_there os w g h i = let (t0, (t1, (t2, (t3, (t4, (t5, (t6, (t7, (t8, t9))))))))) = passed _ g in
    by_bool (eqb h w.alert)
    (λ t. rw (eqb-true h w.alert t) (or_mono (eqb w.alert 0) (is_event (object_at os w.alert)) _ _ (λ z. z) (event_occupied (object_at os w.alert)) t7))
    (λ f. or_right (eqb h 0) _ (all_occupied_in os w.list t6 h (rw f at i)))

pub valid_consistent : (s : State) → Valid s → Consistent s
valid_consistent s g = record {
  started = g.started;
  owners = λ w m. let (t0, t1) = passed _ (g.waits w m) in eqb-false w.owner 0 (not-true _ t0);
  low = λ w m. (g.tickets w m).0;
  below = λ w m. (g.tickets w m).1;
  distinct = distinct_tickets_lem s.waits g.distinct;
  live = λ w m h i. named_there s.objects w (g.waits w m) h i;
}
