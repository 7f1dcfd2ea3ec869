-- Acquiring never makes an object signaled for anyone, so being servable only shrinks.
use mathlib.Core.Path.{◌≡◌, refl, ap, sym, ◌∙◌, subst}
use mathlib.Core.Bool.{Bool, true, false, ◌||◌, cond}
use mathlib.Core.List.{List, [], ◌∷◌}
use mathlib.Core.Option.{Option, none, some}
use mathlib.Core.Logic.{◌⊎◌, inl, inr, ⊎_elim}
use Prim.Native.Nat.{ℕ, zero, suc, pred, ◌<◌}
use native.Mathlib.Omega.{arith}
use lib.ListN.{length, get_or}
use lib.Seq.{get_or-set_same, get_or-set_other, set_out}
use lib.Dec.{eqb, ltb}
use borrow.Author.Tests.{ltb-true, ltb-false, eqb-true, eqb-false, lt-ltb}
use Rattle.model.specs.Basics.{maybe, member}
use Rattle.model.specs.Sizes.{mutex_ceiling}
use Rattle.model.specs.Objects.{Object, empty, semaphore, mutex, event, occupied, signaled, acquired}
use Rattle.model.specs.Waits.{Mode, any, all, Wait, object_at, put_at, Grant, lowest_signaled, all_signaled, look, attempt, servable, acquire_each, named_by}
use Rattle.model.proofs.Logic.{by_bool, by_option, is_some, clash, differ, ◌implies◌, and_split, and_mono, or_left, or_right, or_false_at, or_mono, eqb_same}

-- a mutex that is not another's
abbrev pub mine : ℕ → Object → Bool
mine o empty = true
mine o (semaphore c m) = true
mine o (mutex w c a) = eqb w 0 || eqb w o
mine o (event s m) = true

pub signaled_mine : (o : ℕ) (x : Object) → signaled o x ≡ true → mine o x ≡ true
signaled_mine o empty e = refl
signaled_mine o (semaphore c m) e = refl
signaled_mine o (mutex w c a) e = (and_split _ _ e).0
signaled_mine o (event s m) e = refl

-- acquiring, object by object
pub acquire_less : (o p : ℕ) (x : Object) → (o ≡ 0 → ⊥) → mine o x ≡ true → signaled p (acquired o x) implies signaled p x
acquire_less o p empty z i e = e
acquire_less o p (semaphore c m) z i e = let h : 0 < pred c = ltb-true 0 (pred c) e in lt-ltb 0 c (omega arith)
acquire_less o p (mutex w c a) z i e =
    let r = and_split (eqb o 0 || eqb o p) (ltb (suc c) mutex_ceiling) e in
    let h : suc c < mutex_ceiling = ltb-true (suc c) mutex_ceiling r.1 in
    let n : eqb o 0 ≡ false = by_bool (eqb o 0) (λ t. absurd (z (eqb-true o 0 t))) (λ f. f) in
    let q : o ≡ p = eqb-true o p (rw n at r.0) in
    let k : ltb c mutex_ceiling ≡ true = lt-ltb c mutex_ceiling (omega arith) in
    let j : (eqb w 0 || eqb w p) ≡ true = rw q at i in rw (j, k)
acquire_less o p (event s true) z i e = e
acquire_less o p (event s false) z i e = clash e refl

pub acquire_mine : (o : ℕ) (x : Object) → mine o x ≡ true → mine o (acquired o x) ≡ true
acquire_mine o empty i = refl
acquire_mine o (semaphore c m) i = refl
acquire_mine o (mutex w c a) i = or_right (eqb o 0) (eqb o o) (eqb_same o)
acquire_mine o (event s true) i = refl
acquire_mine o (event s false) i = refl

pub acquire_occupied : (o : ℕ) (x : Object) → occupied (acquired o x) ≡ occupied x
acquire_occupied o empty = refl
acquire_occupied o (semaphore c m) = refl
acquire_occupied o (mutex w c a) = refl
acquire_occupied o (event s true) = refl
acquire_occupied o (event s false) = refl

-- what stands at a handle after a put_at
pub at_put : (os : List Object) (h : ℕ) (x : Object) (k : ℕ) → (object_at (put_at os h x) k ≡ object_at os k) ⊎ ((k ≡ h) × (object_at (put_at os h x) k ≡ x))
at_put os zero x k = inl refl
at_put os (suc i) x zero = inl refl
at_put os (suc i) x (suc j) = by_bool (eqb j i)
    (λ t. let e : j ≡ i = eqb-true j i t in by_bool (ltb i (length os))
    (λ l. inr (ap suc e, rw e (get_or-set_same os i x empty (ltb-true _ _ l))))
    (λ l. inl (ap (λ (q : List Object). get_or q j empty) (set_out os i x (ltb-false _ _ l)))))
    (λ f. inl (get_or-set_other os i j x empty (eqb-false j i f)))

pub at_put_other : (os : List Object) (h : ℕ) (x : Object) (k : ℕ) → eqb k h ≡ false → object_at (put_at os h x) k ≡ object_at os k
at_put_other os h x k n = ⊎_elim (λ e. e) (λ (p : (k ≡ h) × (object_at (put_at os h x) k ≡ x)). absurd (eqb-false k h n p.0)) (at_put os h x k)

-- one object acquired
abbrev pub acquire_at : ℕ → List Object → ℕ → List Object
acquire_at asking os h = put_at os h (acquired asking (object_at os h))

-- fewer objects are signaled, for everyone
abbrev pub Less : List Object → List Object → Type 0
Less os' os = (p h : ℕ) → signaled p (object_at os' h) implies signaled p (object_at os h)

pub put_less : (os : List Object) (h : ℕ) (x : Object) → ((p : ℕ) → signaled p x implies signaled p (object_at os h)) → Less (put_at os h x) os
put_less os h x l p k e = ⊎_elim
    (λ (q : object_at (put_at os h x) k ≡ object_at os k). rw q at e)
    (λ (q : (k ≡ h) × (object_at (put_at os h x) k ≡ x)). let i = q.0 in let r = q.1 in rw i (l p (rw r at e))) (at_put os h x k)

acquire_at_mine : (o : ℕ) (os : List Object) (h k : ℕ) → mine o (object_at os k) ≡ true → mine o (object_at (acquire_at o os h) k) ≡ true
acquire_at_mine o os h k m = ⊎_elim
    (λ (q : object_at (acquire_at o os h) k ≡ object_at os k). rw q m)
    (λ (q : (k ≡ h) × (object_at (acquire_at o os h) k ≡ acquired o (object_at os h))). let r = q.1 in let i = q.0 in rw r (acquire_mine o (object_at os h) (rw i at m)))
    (at_put os h (acquired o (object_at os h)) k)

pub acquire_each_less : (o : ℕ) (os : List Object) (hs : List ℕ) → (o ≡ 0 → ⊥) → ((h : ℕ) → member h hs implies mine o (object_at os h)) → Less (acquire_each o os hs) os
unfolding acquire_each member
acquire_each_less o os [] z m p k e = e
acquire_each_less o os (h ∷ hs) z m p k e =
    let first : Less (acquire_at o os h) os = put_less os h (acquired o (object_at os h)) (λ q. acquire_less o q (object_at os h) z (m h (or_left (eqb h h) (member h hs) (eqb_same h)))) in
    first p k (acquire_each_less o (acquire_at o os h) hs z (λ j i. acquire_at_mine o os h j (m j (or_right (eqb j h) (member j hs) i))) p k e)

pub acquire_each_occupied : (o : ℕ) (os : List Object) (hs : List ℕ) (k : ℕ) → occupied (object_at (acquire_each o os hs) k) ≡ occupied (object_at os k)
unfolding acquire_each
acquire_each_occupied o os [] k = refl
acquire_each_occupied o os (h ∷ hs) k = acquire_each_occupied o (acquire_at o os h) hs k ∙ ⊎_elim
    (λ (q : object_at (acquire_at o os h) k ≡ object_at os k). ap occupied q)
    (λ (q : (k ≡ h) × (object_at (acquire_at o os h) k ≡ acquired o (object_at os h))). ap occupied q.1 ∙ acquire_occupied o (object_at os h) ∙ ap (λ (j : ℕ). occupied (object_at os j)) (sym q.0))
    (at_put os h (acquired o (object_at os h)) k)

-- what an attempt takes was signaled
pub lowest_signaled_lem : (o : ℕ) (os : List Object) (i : ℕ) (hs : List ℕ) (t : Grant) → lowest_signaled o os i hs ≡ some t → (h : ℕ) → member h t.handles implies signaled o (object_at os h)
unfolding lowest_signaled member
lowest_signaled_lem o os i [] t e h m = differ (cc)
lowest_signaled_lem o os i (k ∷ ks) t e h m = by_bool (signaled o (object_at os k))
    (λ s. let q : t.handles ≡ k ∷ [] = ap (λ (x : Option Grant). maybe x [] (λ y. y.handles)) (sym (rw s at e)) in
    let r : (eqb h k || false) ≡ true = subst (λ (l : List ℕ). member h l ≡ true) q m in
    rw (eqb-true h k (or_false_at (eqb h k) r)) s)
    (λ n. lowest_signaled_lem o os (suc i) ks t (rw n at e) h m)

pub all_signaled_lem : (o : ℕ) (os : List Object) (hs : List ℕ) → all_signaled o os hs ≡ true → (h : ℕ) → member h hs implies signaled o (object_at os h)
unfolding all_signaled member
all_signaled_lem o os [] e h m = clash m refl
all_signaled_lem o os (k ∷ ks) e h m = let r = and_split (signaled o (object_at os k)) (all_signaled o os ks) e in by_bool (eqb h k)
    (λ t. rw (eqb-true h k t) r.0) (λ n. all_signaled_lem o os ks r.1 h (rw n at m))

pub look_signaled : (mode : Mode) (o : ℕ) (os : List Object) (hs : List ℕ) (t : Grant) → look mode o os hs ≡ some t → (h : ℕ) → member h t.handles implies signaled o (object_at os h)
unfolding look
look_signaled any o os hs t e h m = lowest_signaled_lem o os 0 hs t e h m
look_signaled all o os hs t e h m = by_bool (all_signaled o os hs)
    (λ s. let q : t.handles ≡ hs = ap (λ (x : Option Grant). maybe x [] (λ y. y.handles)) (sym (rw s at e)) in all_signaled_lem o os hs s h (rw q at m))
    (λ n. differ (let q : none ≡ some t = rw n at e in cc))

pub attempt_signaled : (os : List Object) (w : Wait) (t : Grant) → attempt os w ≡ some t → (h : ℕ) → member h t.handles implies signaled w.owner (object_at os h)
unfolding attempt member
attempt_signaled os w t e h m = by_option (look w.mode w.owner os w.list)
    (λ n. by_bool (signaled w.owner (object_at os w.alert))
    (λ s. let q : t.handles ≡ w.alert ∷ [] = ap (λ (x : Option Grant). maybe x [] (λ y. y.handles)) (sym (rw (n, s) at e)) in
    let r : (eqb h w.alert || false) ≡ true = subst (λ (l : List ℕ). member h l ≡ true) q m in
    rw (eqb-true h w.alert (or_false_at _ r)) s)
    (λ f. differ (let q : none ≡ some t = rw (n, f) at e in cc)))
    (λ x s. look_signaled w.mode w.owner os w.list t (let q : some x ≡ some t = rw s at e in s ∙ q) h m)

-- being servable, by the objects that the wait named_by
lowest_mono : (o : ℕ) (os' os : List Object) (i : ℕ) (hs : List ℕ) → ((h : ℕ) → member h hs ≡ true → signaled o (object_at os' h) implies signaled o (object_at os h))
    → is_some (lowest_signaled o os' i hs) implies is_some (lowest_signaled o os i hs)
unfolding lowest_signaled member
lowest_mono o os' os i [] l e = clash e refl
lowest_mono o os' os i (k ∷ ks) l e = by_bool (signaled o (object_at os k)) (λ s. rw s)
    (λ n. by_bool (signaled o (object_at os' k))
    (λ s. clash (l k (or_left (eqb k k) (member k ks) (eqb_same k)) s) n)
    (λ s. rw n (lowest_mono o os' os (suc i) ks (λ h m. l h (or_right (eqb h k) (member h ks) m)) (rw s at e))))

all_mono : (o : ℕ) (os' os : List Object) (hs : List ℕ) → ((h : ℕ) → member h hs ≡ true → signaled o (object_at os' h) implies signaled o (object_at os h))
    → all_signaled o os' hs implies all_signaled o os hs
unfolding all_signaled member
all_mono o os' os [] l e = refl
all_mono o os' os (k ∷ ks) l e = and_mono _ _ _ _ (l k (or_left (eqb k k) (member k ks) (eqb_same k)))
    (all_mono o os' os ks (λ h m. l h (or_right (eqb h k) (member h ks) m))) e

is_some_cond : (b : Bool) (t : Grant) → is_some (cond b (some t) none) ≡ b
is_some_cond true t = refl
is_some_cond false t = refl

look_mono : (mode : Mode) (o : ℕ) (os' os : List Object) (hs : List ℕ) → ((h : ℕ) → member h hs ≡ true → signaled o (object_at os' h) implies signaled o (object_at os h))
    → is_some (look mode o os' hs) implies is_some (look mode o os hs)
unfolding look
look_mono any o os' os hs l e = lowest_mono o os' os 0 hs l e
look_mono all o os' os hs l e = rw (all_mono o os' os hs l (rw (is_some_cond (all_signaled o os' hs) _) at e))

attempt_or : (os : List Object) (w : Wait) → is_some (attempt os w) ≡ (is_some (look w.mode w.owner os w.list) || signaled w.owner (object_at os w.alert))
unfolding attempt
attempt_or os w = by_option (look w.mode w.owner os w.list) (λ n. rw n (is_some_cond _ _)) (λ t e. rw e)

pub servable_mono : (os' os : List Object) (w : Wait) → ((h : ℕ) → member h (named_by w) ≡ true → signaled w.owner (object_at os' h) implies signaled w.owner (object_at os h))
    → servable os w ≡ false → servable os' w ≡ false
unfolding member
servable_mono os' os w l n = by_bool (servable os' w) (λ t. clash (rw (attempt_or os w)
    (or_mono _ _ _ _ (look_mono w.mode w.owner os' os w.list (λ h m. l h (or_right (eqb h w.alert) (member h w.list) m)))
    (l w.alert (or_left (eqb w.alert w.alert) (member w.alert w.list) (eqb_same w.alert))) (rw (attempt_or os' w) at t))) n) (λ f. f)
