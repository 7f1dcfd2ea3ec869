-- What loops over indices compute, in terms of lists.
use mathlib.Core.Path.{◌≡◌, refl, ap, sym, ◌∙◌}
use mathlib.Core.Bool.{Bool, true, false, not, ◌&&◌, ◌||◌, cond, and-true, or-false, and_assoc, or_assoc}
use mathlib.Core.List.{List, [], ◌∷◌, append-nil}
use mathlib.Core.Option.{none, some}
use mathlib.Core.Logic.{⊎_elim}
use Prim.Native.Nat.{ℕ, zero, suc, ◌+◌, ◌≤◌, ◌<◌}
use native.Mathlib.Omega.{arith}
use native.Mathlib.Nat.{zero-add, add-zero, le_refl, suc-add, add-suc, eq-or-lt_of_le, le_of_suc-le-suc}
use lib.ListN.{length, get_or, set, replicate, length-replicate}
use lib.Seq.{sets, sets-eq, drop-length}
use lib.Dec.{eqb, ltb}
use borrow.Author.Tests.{eqb-true, eqb-false, lt-ltb, le-ltb, eq-eqb}
use Rattle.model.specs.Basics.{member, has_repeat, tabulate}
use Rattle.model.specs.Calls.{lowest_empty, all_occupied}
use Rattle.model.specs.Objects.{Object, empty, occupied, signaled}
use Rattle.model.specs.Waits.{object_at, Grant, lowest_signaled, all_signaled}
use Rattle.model.proofs.Logic.{by_bool, clash, same_tests, and_split, or_left, or_right, or_false_at}
use Rattle.model.proofs.Literal.{repeat_once, once_repeat}
use Rattle.cells.specs.Fold.{fold_below, all_below, some_below, search_from}
use Rattle.cells.specs.Validity.{repeated_list}
use Rattle.cells.specs.Waits.{has}

-- the first step first
pub fold_first : {A : Type 0} (step : A → ℕ → A) (a : A) (n : ℕ) → fold_below step a (suc n) ≡ fold_below (λ x i. step x (suc i)) (step a 0) n
unfolding fold_below
fold_first step a zero = refl
fold_first step a (suc n) = ap (λ x. step x (suc n)) (fold_first step a n)

pub all_first : (f : ℕ → Bool) (n : ℕ) → all_below f (suc n) ≡ (f 0 && all_below (λ i. f (suc i)) n)
unfolding fold_below
all_first f zero = sym (and-true (f 0))
all_first f (suc n) = ap (λ (b : Bool). b && f (suc n)) (all_first f n) ∙ and_assoc (f 0) (all_below (λ i. f (suc i)) n) (f (suc n))

pub some_first : (f : ℕ → Bool) (n : ℕ) → some_below f (suc n) ≡ (f 0 || some_below (λ i. f (suc i)) n)
unfolding fold_below
some_first f zero = sym (or-false (f 0))
some_first f (suc n) = ap (λ (b : Bool). b || f (suc n)) (some_first f n) ∙ or_assoc (f 0) (some_below (λ i. f (suc i)) n) (f (suc n))

-- a fold of a test as a claim of every index, and back
pub all_at_lem : (f : ℕ → Bool) (n : ℕ) → all_below f n ≡ true → (i : ℕ) → i < n → f i ≡ true
unfolding fold_below
all_at_lem f zero e i h = absurd (let z : ⊥ = omega arith in z)
all_at_lem f (suc n) e i h = let p = and_split (all_below f n) (f n) e in ⊎_elim (λ q. rw q p.1) (λ l. all_at_lem f n p.0 i l) (eq-or-lt_of_le (le_of_suc-le-suc h))

pub all_intro : (f : ℕ → Bool) (n : ℕ) → ((i : ℕ) → i < n → f i ≡ true) → all_below f n ≡ true
unfolding fold_below
all_intro f zero h = refl
all_intro f (suc n) h = rw (all_intro f n (λ i l. h i (omega arith)), h n (omega arith))

pub some_at : (f : ℕ → Bool) (n : ℕ) → some_below f n ≡ true → (k : ℕ) × (k < n) × (f k ≡ true)
unfolding fold_below
some_at f zero e = clash e refl
some_at f (suc n) e = by_bool (f n) (λ y. (n, omega arith, y))
    (λ z. let q : (some_below f n || false) ≡ true = rw z at e in let r = some_at f n (or_false_at (some_below f n) q) in let l : r.0 < n = r.1 in (r.0, omega arith, r.2))

pub some_intro : (f : ℕ → Bool) (n k : ℕ) → k < n → f k ≡ true → some_below f n ≡ true
unfolding fold_below
some_intro f zero k h e = absurd (let z : ⊥ = omega arith in z)
some_intro f (suc n) k h e = ⊎_elim (λ q. or_right (some_below f n) (f n) (let y : f n ≡ true = rw q at e in y)) (λ l. or_left (some_below f n) (f n) (some_intro f n k l e)) (eq-or-lt_of_le (le_of_suc-le-suc h))

-- over a list's elements
pub all_signaled_is : (o : ℕ) (os : List Object) (hs : List ℕ) (f : ℕ → Bool) → ((k : ℕ) → f k ≡ signaled o (object_at os (get_or hs k 0))) → all_below f (length hs) ≡ all_signaled o os hs
unfolding all_signaled fold_below
all_signaled_is o os [] f e = refl
all_signaled_is o os (h ∷ hs) f e = all_first f (length hs) ∙ rw (e 0, all_signaled_is o os hs (λ i. f (suc i)) (λ k. e (suc k)))

pub all_occupied_is : (os : List Object) (hs : List ℕ) (f : ℕ → Bool) → ((k : ℕ) → f k ≡ occupied (object_at os (get_or hs k 0))) → all_below f (length hs) ≡ all_occupied os hs
unfolding all_occupied fold_below
all_occupied_is os [] f e = refl
all_occupied_is os (h ∷ hs) f e = all_first f (length hs) ∙ rw (e 0, all_occupied_is os hs (λ i. f (suc i)) (λ k. e (suc k)))

pub eqb_flip : (a b : ℕ) → eqb a b ≡ eqb b a
eqb_flip a b = same_tests (eqb a b) (eqb b a) (λ e. eq-eqb b a (sym (eqb-true a b e))) (λ e. eq-eqb a b (sym (eqb-true b a e)))

pub has_is : (hs : List ℕ) (h : ℕ) → has hs h ≡ member h hs
unfolding has member fold_below
has_is [] h = refl
has_is (k ∷ hs) h = some_first (λ i. eqb (get_or (k ∷ hs) i 0) h) (length hs) ∙ rw (eqb_flip k h, has_is hs h)

-- two loops find a number that stands twice
pub repeated_is : (hs : List ℕ) → repeated_list hs ≡ has_repeat hs
unfolding repeated_list
repeated_is hs = same_tests _ _
    (λ t. let r = some_at (λ k. some_below (λ j. eqb (get_or hs j 0) (get_or hs k 0)) k) (length hs) t in let k : ℕ = r.0 in let b : k < length hs = r.1 in
    let q = some_at (λ j. eqb (get_or hs j 0) (get_or hs k 0)) k r.2 in let j : ℕ = q.0 in let c : j < k = q.1 in
    by_bool (has_repeat hs) (λ y. y) (λ n. absurd (repeat_once hs n j k c b (eqb-true _ _ q.2))))
    (λ t. by_bool (some_below (λ k. some_below (λ j. eqb (get_or hs j 0) (get_or hs k 0)) k) (length hs)) (λ y. y)
    (λ n. clash t (once_repeat hs (λ j k l m e. clash (some_intro (λ k. some_below (λ j. eqb (get_or hs j 0) (get_or hs k 0)) k) (length hs) k m
    (some_intro (λ j. eqb (get_or hs j 0) (get_or hs k 0)) k j l (eq-eqb _ _ e))) n))))

-- SEARCHES
pub record First (f : ℕ → Bool) (i n j : ℕ) : Type 0 where
  pub low : i ≤ j
  pub high : j ≤ i + n
  pub found : j < i + n → f j ≡ true
  pub before : (k : ℕ) → i ≤ k → k < j → f k ≡ false

pub search_is : (f : ℕ → Bool) (i n : ℕ) → First f i n (search_from f i n)
unfolding search_from
search_is f i zero = record { low = le_refl _; high = omega arith; found = λ l. absurd (let z : ⊥ = omega arith in z); before = λ k a b. absurd (let z : ⊥ = omega arith in z) }
search_is f i (suc n) = by_bool (f i)
    (λ t. rw t (record { low = le_refl _; high = omega arith; found = λ l. t; before = λ k a b. absurd (let z : ⊥ = omega arith in z) }))
    (λ u. let r : First f (suc i) n (search_from f (suc i) n) = search_is f (suc i) n in let a = r.low in let b = r.high in
    rw u (record {
      low = omega arith;
      high = omega arith;
      found = λ l. r.found (omega arith);
      before = λ k c d. by_bool (eqb k i) (λ y. rw (eqb-true k i y) u) (λ y. let z : k ≡ i → ⊥ = eqb-false k i y in r.before k (omega arith) d);
    }))

abbrev pub grant : ℕ → ℕ → Grant
grant h i = record { handles = h ∷ []; index = i }

-- the look for any is a search
pub search_look : (o : ℕ) (os : List Object) (hs : List ℕ) (i : ℕ) (l : ℕ → ℕ) → ((k : ℕ) → l (i + k) ≡ get_or hs k 0)
    → lowest_signaled o os i hs ≡ cond (ltb (search_from (λ j. signaled o (object_at os (l j))) i (length hs)) (i + length hs)) (some (grant (l (search_from (λ j. signaled o (object_at os (l j))) i (length hs))) (search_from (λ j. signaled o (object_at os (l j))) i (length hs)))) none
unfolding lowest_signaled search_from
search_look o os [] i l e = let z : ltb i (i + 0) ≡ false = le-ltb i (i + 0) (omega arith) in rw z
search_look o os (h ∷ hs) i l e =
    let e₀ : l i ≡ h = ap l (sym (add-zero i)) ∙ e 0 in
    let q : i + suc (length hs) ≡ suc i + length hs = add-suc i (length hs) ∙ sym (suc-add i (length hs)) in
    let ih = search_look o os hs (suc i) l (λ k. ap l (suc-add i k ∙ sym (add-suc i k)) ∙ e (suc k)) in
    rw (← e₀) (by_bool (signaled o (object_at os (l i)))
    (λ t. let y : ltb i (i + suc (length hs)) ≡ true = lt-ltb i (i + suc (length hs)) (omega arith) in rw (t, y))
    (λ f. rw (f, q) ih))

-- the lowest empty place is a search
pub search_empty : (os : List Object) (h : ℕ) (f : ℕ → Bool) → ((k : ℕ) → k < length os → f (h + k) ≡ not (occupied (get_or os k empty))) → search_from f h (length os) ≡ lowest_empty h os
unfolding search_from lowest_empty
search_empty [] h f e = refl
search_empty (x ∷ os) h f e =
    let a : f h ≡ not (occupied x) = ap f (sym (add-zero h)) ∙ e 0 (omega arith) in
    let ih = search_empty os (suc h) f (λ k l. ap f (suc-add h k ∙ sym (add-suc h k)) ∙ e (suc k) (omega arith)) in
    rw (a, ih) (by_bool (occupied x) (λ t. rw t) (λ n. rw n))

pub lowest_shift : (os : List Object) (h : ℕ) → lowest_empty (suc h) os ≡ suc (lowest_empty h os)
unfolding lowest_empty
lowest_shift [] h = refl
lowest_shift (x ∷ os) h = by_bool (occupied x) (λ t. rw t (lowest_shift os (suc h))) (λ n. rw n)

-- storing cell by cell
pub fold_stores : (t : List ℕ) (b n : ℕ) (v : ℕ → ℕ) → fold_below (λ u i. set u (b + i) (v i)) t n ≡ sets t b (tabulate n v)
unfolding fold_below tabulate
fold_stores t b zero v = refl
fold_stores t b (suc n) v = fold_first (λ u i. set u (b + i) (v i)) t n
    ∙ rw (add-zero b) (ap (λ (f : List ℕ → ℕ → List ℕ). fold_below f (set t b (v 0)) n) (λ j. λ u i. set u ((add-suc b i ∙ sym (suc-add b i)) j) (v (suc i))) ∙ fold_stores (set t b (v 0)) (suc b) n (λ i. v (suc i)))

pub tabulate_zeros : (n : ℕ) → tabulate {A = ℕ} n (λ i. 0) ≡ replicate n 0
unfolding tabulate
tabulate_zeros zero = refl
tabulate_zeros (suc n) = ap (λ (l : List ℕ). 0 ∷ l) (tabulate_zeros n)

pub fold_clears : (t : List ℕ) (b n : ℕ) → fold_below (λ u i. set u (b + i) 0) t n ≡ sets t b (replicate n 0)
fold_clears t b n = fold_stores t b n (λ i. 0) ∙ ap (sets t b) (tabulate_zeros n)

-- a list of zeros, put one by one
pub zeros : (n : ℕ) (t : List ℕ) → length t ≡ n → fold_below (λ u i. set u i 0) t n ≡ replicate n 0
zeros n t e =
    let Z : List ℕ = replicate n 0 in let z : length Z ≡ n = length-replicate {A = ℕ} n 0 in
    let d : 0 + length Z ≡ length t = zero-add _ ∙ z ∙ sym e in
    ap (λ (f : List ℕ → ℕ → List ℕ). fold_below f t n) (λ j. λ u i. set u (sym (zero-add i) j) 0) ∙ fold_clears t 0 n
    ∙ sets-eq Z t 0 (omega arith) ∙ rw (d, drop-length t) (append-nil Z)
