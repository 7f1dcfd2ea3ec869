-- Where no unconcerned wait could be served, one walk over the concerned waits is the repeated search over all.
use mathlib.Core.Path.{◌≡◌, refl, ap, sym}
use mathlib.Core.Bool.{Bool, true, false, not, ◌&&◌, ◌||◌, cond}
use mathlib.Core.List.{List, []}
use mathlib.Core.Option.{none, some}
use Prim.Native.Nat.{ℕ, zero, suc, ◌≤◌, ◌<◌}
use native.Mathlib.Omega.{arith}
use native.Mathlib.Nat.{le_refl, le_antisymm}
use lib.ListN.{length}
use lib.Dec.{eqb, ltb}
use borrow.Author.Tests.{ltb-true, ltb-false, lt-ltb, le-ltb}
use Rattle.model.specs.Basics.{member}
use Rattle.model.specs.Objects.{Object, occupied}
use Rattle.model.specs.Notions.{◌is_in◌, Quiet}
use Rattle.model.specs.Waits.{Wait, WaitPlace, State, with_objects, with_waits, object_at, Grant, attempt, servable, acquire_each, dequeue, oldest, named_by, concerned_by, Woken, none_woken, and_then, serve, try_to_serve, walk_queue, search_queue}
use Rattle.model.proofs.Logic.{by_bool, by_option, is_some, clash, and_split, eqb_same}
use Rattle.model.proofs.Acquiring.{signaled_mine, Less, acquire_each_less, acquire_each_occupied, attempt_signaled, servable_mono}
use Rattle.model.proofs.Queue.{oldest_none, Oldest, oldest_some, Distinct, oldest_is, oldest_is_none, dequeue_in, count, count_length, count_zero, count_le, count_lt, count_dequeue}

-- one wait of a walk
abbrev pub visit : List ℕ → Wait → State → Woken
visit changed w s = cond (concerned_by changed w) (try_to_serve w s) (none_woken s)

-- What the argument asks of the waits.
pub record Consistent (s : State) : Type 0 where
  pub started : 0 < s.next
  pub owners : (w : Wait) → w is_in s.waits → w.owner ≡ 0 → ⊥
  pub low : (w : Wait) → w is_in s.waits → 0 < w.ticket
  pub below : (w : Wait) → w is_in s.waits → w.ticket < s.next
  pub distinct : Distinct s.waits
  pub live : (w : Wait) → w is_in s.waits → (h : ℕ) → member h (named_by w) ≡ true → (eqb h 0 || occupied (object_at s.objects h)) ≡ true

-- No queued wait that named_by none of these objects could be served.
abbrev pub Unaffected : List ℕ → State → Type 0
Unaffected cs s = (w : Wait) → w is_in s.waits → concerned_by cs w ≡ false → servable s.objects w ≡ false

abbrev pub after : Wait → Grant → State → State
after w t s = with_waits (with_objects s (acquire_each w.owner s.objects t.handles)) (dequeue w.ticket s.waits)

pub taken_less : (s : State) → Consistent s → (w : Wait) → w is_in s.waits → (t : Grant) → attempt s.objects w ≡ some t → Less (acquire_each w.owner s.objects t.handles) s.objects
taken_less s g w m t e = acquire_each_less w.owner s.objects t.handles (g.owners w m)
    (λ h i. signaled_mine w.owner (object_at s.objects h) (attempt_signaled s.objects w t e h i))

pub after_still : (s : State) → Consistent s → (w : Wait) → w is_in s.waits → (t : Grant) → attempt s.objects w ≡ some t
    → (v : Wait) → servable s.objects v ≡ false → servable (acquire_each w.owner s.objects t.handles) v ≡ false
after_still s g w m t e v n = servable_mono _ s.objects v (λ h i. taken_less s g w m t e v.owner h) n

pub after_consistent : (s : State) → Consistent s → (w : Wait) (t : Grant) → Consistent (after w t s)
after_consistent s g w t = record {
  started = g.started;
  owners = λ v m. g.owners v (dequeue_in _ _ v m).0;
  low = λ v m. g.low v (dequeue_in _ _ v m).0;
  below = λ v m. g.below v (dequeue_in _ _ v m).0;
  distinct = λ u v m k. g.distinct u v (dequeue_in _ _ u m).0 (dequeue_in _ _ v k).0;
  live = λ v m h i. rw (acquire_each_occupied w.owner s.objects t.handles h) (g.live v (dequeue_in _ _ v m).0 h i);
}

-- an attempt that succeeds, as a value
pub served : (os : List Object) (w : Wait) → servable os w ≡ true → (t : Grant) × (attempt os w ≡ some t)
served os w e = by_option (attempt os w) (λ n. clash e (ap is_some n)) (λ t q. (t, q))

unserved : (os : List Object) (w : Wait) → servable os w ≡ false → attempt os w ≡ none
unserved os w e = by_option (attempt os w) (λ n. n) (λ t q. clash (ap is_some q) e)

try_not : (w : Wait) (s : State) → servable s.objects w ≡ false → try_to_serve w s ≡ none_woken s
unfolding try_to_serve
try_not w s e = rw (unserved s.objects w e)

visit_not : (cs : List ℕ) (w : Wait) (s : State) → servable s.objects w ≡ false → visit cs w s ≡ none_woken s
visit_not cs w s e = by_bool (concerned_by cs w) (λ t. rw t (try_not w s e)) (λ n. rw n)

try_is : (w : Wait) (s : State) (t : Grant) → attempt s.objects w ≡ some t → try_to_serve w s ≡ serve w t s
unfolding try_to_serve
try_is w s t e = rw e

pub search_none : (m : ℕ) (s : State) → Quiet s → search_queue m s ≡ none_woken s
unfolding search_queue
search_none zero s q = refl
search_none (suc m) s q = rw (oldest_is_none (servable s.objects) s.waits q)

abbrev above : ℕ → Wait → Bool
above last w = ltb last w.ticket

abbrev pub each : Wait → Bool
each w = true

-- serving takes one wait off all_signaled count
pub fewer : (f : Wait → Bool) (w : Wait) (ws : List WaitPlace) → w is_in ws → f w ≡ true → count f (dequeue w.ticket ws) < count f ws
fewer f w ws m t = rw (count_dequeue f w.ticket ws) (count_lt (λ v. not (eqb v.ticket w.ticket) && f v) f ws
    (λ v k e. (and_split (not (eqb v.ticket w.ticket)) (f v) e).1) w m (rw (eqb_same w.ticket)) t)

kept : (f : Wait → Bool) (w : Wait) (ws : List WaitPlace) → count f (dequeue w.ticket ws) ≤ count f ws
kept f w ws = rw (count_dequeue f w.ticket ws) (count_le (λ v. not (eqb v.ticket w.ticket) && f v) f ws
    (λ v k e. (and_split (not (eqb v.ticket w.ticket)) (f v) e).1))

higher : (last : ℕ) (w : Wait) (ws : List WaitPlace) → w is_in ws → above last w ≡ true → count (above w.ticket) ws < count (above last) ws
higher last w ws m t = count_lt (above w.ticket) (above last) ws
    (λ v k e. let a : last < w.ticket = ltb-true _ _ t in let b : w.ticket < v.ticket = ltb-true _ _ e in lt-ltb last v.ticket (omega arith))
    w m (le-ltb w.ticket w.ticket (le_refl _)) t

-- the walk_queue has passed all tickets up to last
abbrev VisitedTo : ℕ → State → Type 0
VisitedTo last s = (w : Wait) → w is_in s.waits → w.ticket ≤ last → servable s.objects w ≡ false

visited_on : (last : ℕ) (s : State) → Consistent s → VisitedTo last s → (w : Wait) → Oldest (above last) s.waits w → servable s.objects w ≡ false → VisitedTo w.ticket s
visited_on last s g p w q n v m l = by_bool (above last v)
    (λ t. let i : v ≡ w = g.distinct v w m q.stands (le_antisymm l (q.lowest v m t)) in rw i n)
    (λ f. p v m (ltb-false _ _ f))

done : (last : ℕ) (s : State) → VisitedTo last s → ((w : Wait) → w is_in s.waits → above last w ≡ false) → Quiet s
done last s p n w m = p w m (ltb-false _ _ (n w m))

lowest_served : (last : ℕ) (s : State) → VisitedTo last s → (w : Wait) → Oldest (above last) s.waits w → servable s.objects w ≡ true → Oldest (servable s.objects) s.waits w
lowest_served last s p w q t = record {
  stands = q.stands;
  passes = t;
  lowest = λ v m c. by_bool (above last v) (λ a. q.lowest v m a) (λ f. clash c (p v m (ltb-false _ _ f)));
}

visited_after : (last : ℕ) (s : State) → Consistent s → VisitedTo last s → (w : Wait) → Oldest (above last) s.waits w → (t : Grant) → attempt s.objects w ≡ some t → VisitedTo w.ticket (after w t s)
visited_after last s g p w q t e v m l = let k = dequeue_in _ _ v m in after_still s g w q.stands t e v (by_bool (above last v)
    (λ a. absurd (k.1 (le_antisymm l (q.lowest v k.0 a))))
    (λ f. p v k.0 (ltb-false _ _ f)))

settled_after : (cs : List ℕ) (s : State) → Consistent s → Unaffected cs s → (w : Wait) → w is_in s.waits → (t : Grant) → attempt s.objects w ≡ some t → Unaffected cs (after w t s)
settled_after cs s g d w m t e v k n = after_still s g w m t e v (d v (dequeue_in _ _ v k).0 n)

pub walk_is_search : (n m : ℕ) (cs : List ℕ) (last : ℕ) (s : State) → Consistent s → Unaffected cs s → VisitedTo last s
    → count (above last) s.waits ≤ n → count each s.waits ≤ m → walk_queue n cs last s ≡ search_queue m s
unfolding walk_queue search_queue serve
walk_is_search zero m cs last s g d p a b = sym (search_none m s (done last s p (count_zero (above last) s.waits a)))
walk_is_search (suc n) zero cs last s g d p a b = rw (oldest_is_none (above last) s.waits (λ w m. clash refl (count_zero each s.waits b w m)))
walk_is_search (suc n) (suc m) cs last s g d p a b = by_option (oldest (above last) s.waits)
    (λ e. rw e (sym (search_none (suc m) s (done last s p (oldest_none (above last) s.waits e)))))
    (λ w e. let q : Oldest (above last) s.waits w = oldest_some (above last) s.waits w e in
    let up : count (above w.ticket) s.waits < count (above last) s.waits = higher last w s.waits q.stands q.passes in
    by_bool (servable s.objects w)
    (λ c. let r = served s.objects w c in let t : Grant = r.0 in let i : attempt s.objects w ≡ some t = r.1 in
    let met : concerned_by cs w ≡ true = by_bool (concerned_by cs w) (λ y. y) (λ y. clash c (d w q.stands y)) in
    let first : oldest (servable s.objects) s.waits ≡ some w = oldest_is _ s.waits w g.distinct (lowest_served last s p w q c) in
    let gone : count each (dequeue w.ticket s.waits) < count each s.waits = fewer each w s.waits q.stands refl in
    let less : count (above w.ticket) (dequeue w.ticket s.waits) ≤ count (above w.ticket) s.waits = kept (above w.ticket) w s.waits in
    rw (e, first, met, try_is w s t i) (ap (λ (v : Woken). and_then (serve w t s) (λ s'. v))
    (walk_is_search n m cs w.ticket (after w t s) (after_consistent s g w t) (settled_after cs s g d w q.stands t i)
    (visited_after last s g p w q t i) (omega arith) (omega arith))))
    (λ f. rw (e, visit_not cs w s f) (walk_is_search n (suc m) cs w.ticket s g d (visited_on last s g p w q f) (omega arith) b)))

-- What the search leaves: nothing that could be served, and all that histories keep.
pub search_quiet : (m : ℕ) (s : State) → Consistent s → count each s.waits ≤ m → Quiet (search_queue m s).state
unfolding search_queue serve
search_quiet zero s g b = λ w k. clash refl (count_zero each s.waits b w k)
search_quiet (suc m) s g b = by_option (oldest (servable s.objects) s.waits)
    (λ e. rw e (oldest_none (servable s.objects) s.waits e))
    (λ w e. let q : Oldest (servable s.objects) s.waits w = oldest_some (servable s.objects) s.waits w e in
    let r = served s.objects w q.passes in let t : Grant = r.0 in let i : attempt s.objects w ≡ some t = r.1 in
    let gone : count each (dequeue w.ticket s.waits) < count each s.waits = fewer each w s.waits q.stands refl in
    rw (e, try_is w s t i) (search_quiet m (after w t s) (after_consistent s g w t) (omega arith)))

pub search_consistent : (m : ℕ) (s : State) → Consistent s → Consistent (search_queue m s).state
unfolding search_queue serve
search_consistent zero s g = g
search_consistent (suc m) s g = by_option (oldest (servable s.objects) s.waits)
    (λ e. rw e g)
    (λ w e. let q : Oldest (servable s.objects) s.waits w = oldest_some (servable s.objects) s.waits w e in
    let r = served s.objects w q.passes in let t : Grant = r.0 in let i : attempt s.objects w ≡ some t = r.1 in
    rw (e, try_is w s t i) (search_consistent m (after w t s) (after_consistent s g w t)))

-- as the two steps use them
pub walking_is_searching : (cs : List ℕ) (s : State) → Consistent s → Unaffected cs s → walk_queue (length s.waits) cs 0 s ≡ search_queue (length s.waits) s
walking_is_searching cs s g d = walk_is_search (length s.waits) (length s.waits) cs 0 s g d
    (λ w m l. absurd (let h : 0 < w.ticket = g.low w m in let z : ⊥ = omega arith in z)) (count_length _ _) (count_length _ _)

-- what serving a queued wait keeps, a walk keeps
pub walk_keeps : (P : State → Type 0) → ((s : State) (w : Wait) (t : Grant) → w is_in s.waits → attempt s.objects w ≡ some t → P s → P (after w t s))
    → (n : ℕ) (changed : List ℕ) (last : ℕ) (s : State) → P s → P (walk_queue n changed last s).state
unfolding walk_queue try_to_serve serve
walk_keeps P k zero changed last s p = p
walk_keeps P k (suc n) changed last s p = by_option (oldest (λ w. ltb last w.ticket) s.waits) (λ e. rw e p)
    (λ w e. let m : w is_in s.waits = (oldest_some (λ w. ltb last w.ticket) s.waits w e).stands in by_bool (concerned_by changed w)
    (λ y. by_option (attempt s.objects w) (λ a. rw (e, y, a) (walk_keeps P k n changed w.ticket s p))
    (λ t a. rw (e, y, a) (walk_keeps P k n changed w.ticket (after w t s) (k s w t m a p))))
    (λ f. rw (e, f) (walk_keeps P k n changed w.ticket s p)))

-- a call that changes no object walks in vain
pub walk_nothing : (n last : ℕ) (s : State) → walk_queue n [] last s ≡ none_woken s
unfolding walk_queue concerned_by
walk_nothing zero last s = refl
walk_nothing (suc n) last s = by_option (oldest (λ w. ltb last w.ticket) s.waits) (λ e. rw e) (λ w e. rw e (walk_nothing n w.ticket s))
