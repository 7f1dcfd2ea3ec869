-- Where the code's shape differs from the definition of `cells`: zeros by one OR-fold; repeats and occupied handles in one
-- walk, by a flag for each number met.
use Prim.Native.Nat.{ℕ, zero, suc, ◌+◌, ◌*◌, ◌<◌, ◌%◌}
use mathlib.Core.Path.{◌≡◌, refl, sym, ap, ◌∙◌}
use mathlib.Core.Bool.{Bool, true, false, not, ◌&&◌, ◌||◌, and-false, or-true, or-false}
use mathlib.Core.List.{List, ◌∷◌}
use lib.Dec.{eqb, ltb}
use lib.Bits.{bit_or, or_add_and, and_le_r, or_zero_l}
use lib.ListN.{length, get_or, set, replicate, length-set, length-replicate, get_or-replicate}
use lib.Seq.{get_or-set_same, get_or-set_other}
use native.Mathlib.Omega.{arith}
use native.Mathlib.Numerals.{add-one}
use native.Mathlib.Nat.{mod-lt, mod-eq_of_lt}
use borrow.Author.Tests.{lt-ltb, eq-eqb, ne_eqb, eqb-true, eqb-false, ltb-true, ltb-false}
use Rattle.model.specs.Basics.{bit, has_repeat}
use Rattle.model.specs.Sizes.{object_places}
use Rattle.model.proofs.Logic.{by_bool, clash, not_true, not_false, not_or}
use Rattle.cells.specs.Fold.{fold_below, all_below, some_below, or_below}
use Rattle.cells.specs.Objects.{named}
use Rattle.cells.specs.Waits.{has}
use Rattle.cells.specs.Validity.{occupied_at, event_at, occupied_list, repeated_list, proper_handles, proper_alert}
use Rattle.refine.proofs.Fold.{all_at_lem, all_intro, all_first, has_is, repeated_is}

-- numbers or'ed are 0 exactly if each is
or_eqb : (a b : ℕ) → eqb (bit_or a b) 0 ≡ (eqb a 0 && eqb b 0)
or_eqb zero b = ap (λ (x : ℕ). eqb x 0) (or_zero_l b) ∙ ap (λ (x : Bool). x && eqb b 0) (sym (eq-eqb 0 0 refl))
or_eqb (suc a) b = ne_eqb (bit_or (suc a) b) 0 (λ e. omega (arith, e, or_add_and (suc a) b, and_le_r (suc a) b)) ∙ ap (λ (x : Bool). x && eqb b 0) (sym (ne_eqb (suc a) 0 (λ e. omega (arith, e))))

pub or_all_zero : (f : ℕ → ℕ) (n : ℕ) → eqb (or_below f n) 0 ≡ all_below (λ i. eqb (f i) 0) n
unfolding fold_below
or_all_zero f zero = refl
or_all_zero f (suc n) = or_eqb (or_below f n) (f n) ∙ ap (λ (x : Bool). x && eqb (f n) 0) (or_all_zero f n)

pub all_same : (f g : ℕ → Bool) (n : ℕ) → ((i : ℕ) → f i ≡ g i) → all_below f n ≡ all_below g n
unfolding fold_below
all_same f g zero h = refl
all_same f g (suc n) h = rw (all_same f g n h, h n)

-- FLAGS, more than there are handles
abbrev pub marks : ℕ
marks = 2 * object_places

abbrev below_marks : List ℕ → Bool
below_marks list = all_below (λ i. ltb (get_or list i 0) marks) (length list)

-- what is occupied has a flag
named_none : (t : List ℕ) (h : ℕ) → object_places < h → (named t h).kind ≡ 0
unfolding named
named_none t h l = rw (ne_eqb h 0 (λ e. let w : ⊥ = omega arith in w), lt-ltb object_places h l)

flagged : (t : List ℕ) (h : ℕ) (b : Bool) → ((named t h).kind ≡ 0 → b ≡ false) → b ≡ true → ltb h marks ≡ true
flagged t h b f e = by_bool (ltb h marks) (λ y. y) (λ n. let l = ltb-false h marks n in clash e (f (named_none t h (omega arith))))

occupied_flagged : (t : List ℕ) (h : ℕ) → occupied_at t h ≡ true → ltb h marks ≡ true
unfolding occupied_at
occupied_flagged t h e = flagged t h (occupied_at t h) (λ z. rw z) e

alert_flagged : (t : List ℕ) (h : ℕ) → proper_alert t h ≡ true → ltb h marks ≡ true
unfolding event_at
alert_flagged t h e = by_bool (eqb h 0) (λ y. rw (eqb-true h 0 y)) (λ n. flagged t h (event_at t h) (λ z. rw z) (let q : (false || event_at t h) ≡ true = rw n at e in q))

-- flags: one for each number met
abbrev pub seen_below : (ℕ → ℕ) → ℕ → List ℕ
seen_below f n = fold_below (λ (u : List ℕ) i. set u (f i) 1) (replicate marks 0) n

abbrev pub fresh_at : (ℕ → ℕ) → ℕ → Bool
fresh_at f k = eqb (get_or (seen_below f k) (f k) 0) 0

module _ (f : ℕ → ℕ) where
  seen_length : (n : ℕ) → length (seen_below f n) ≡ marks
  unfolding fold_below
  seen_length zero = length-replicate {A = ℕ} marks 0
  seen_length (suc n) = length-set (seen_below f n) (f n) 1 ∙ seen_length n

  seen_step : (n x : ℕ) (b : Bool) → x < marks → eqb (f n) x ≡ b → get_or (seen_below f n) x 0 ≡ bit (some_below (λ j. eqb (f j) x) n) → get_or (set (seen_below f n) (f n) 1) x 0 ≡ bit (some_below (λ j. eqb (f j) x) n || b)
  seen_step n x true h e ih = let q : f n ≡ x = eqb-true (f n) x e in let l : x < length (seen_below f n) = rw (seen_length n) h in
      rw (q, or-true (some_below (λ j. eqb (f j) x) n)) (get_or-set_same (seen_below f n) x 1 0 l)
  seen_step n x false h e ih = rw (or-false (some_below (λ j. eqb (f j) x) n)) (get_or-set_other (seen_below f n) (f n) x 1 0 (λ q. eqb-false (f n) x e (sym q)) ∙ ih)

  seen_flag : (n x : ℕ) → x < marks → get_or (seen_below f n) x 0 ≡ bit (some_below (λ j. eqb (f j) x) n)
  unfolding fold_below
  seen_flag zero x h = get_or-replicate {A = ℕ} marks x 0 0 h
  seen_flag (suc n) x h = seen_step n x (eqb (f n) x) h refl (seen_flag n x h)

  flag_not : (b : Bool) → eqb (bit b) 0 ≡ not b
  flag_not true = refl
  flag_not false = refl

  fresh_once : ((k : ℕ) → f k < marks) → (n : ℕ) → all_below (fresh_at f) n ≡ not (some_below (λ k. some_below (λ j. eqb (f j) (f k)) k) n)
  unfolding fold_below
  fresh_once h zero = refl
  fresh_once h (suc n) = rw (fresh_once h n, seen_flag n (f n) (h n), flag_not (some_below (λ j. eqb (f j) (f n)) n)) (not_or (some_below (λ k. some_below (λ j. eqb (f j) (f k)) k) n) (some_below (λ j. eqb (f j) (f n)) n))

some_same : (f g : ℕ → Bool) (n : ℕ) → ((i : ℕ) → i < n → f i ≡ g i) → some_below f n ≡ some_below g n
unfolding fold_below
some_same f g zero h = refl
some_same f g (suc n) h = rw (some_same f g n (λ i l. h i (omega arith)), h n (omega arith))

-- the flag of a list's k-th number
abbrev pub flag_of : List ℕ → ℕ → ℕ
flag_of list k = get_or list k 0 % marks

distinct_is : (list : List ℕ) → below_marks list ≡ true → all_below (fresh_at (flag_of list)) (length list) ≡ not (repeated_list list)
unfolding repeated_list
distinct_is list b = let at : (k : ℕ) → k < length list → flag_of list k ≡ get_or list k 0 = λ k l. mod-eq_of_lt (ltb-true _ _ (all_at_lem (λ i. ltb (get_or list i 0) marks) (length list) b k l)) in
    fresh_once (flag_of list) (λ k. mod-lt _ (omega arith)) (length list)
    ∙ ap not (some_same (λ k. some_below (λ j. eqb (flag_of list j) (flag_of list k)) k) (λ k. some_below (λ j. eqb (get_or list j 0) (get_or list k 0)) k) (length list)
    (λ k l. some_same (λ j. eqb (flag_of list j) (flag_of list k)) (λ j. eqb (get_or list j 0) (get_or list k 0)) k (λ j m. rw (at j (omega arith), at k l))))

and_same : (a b c : Bool) → (a ≡ true → b ≡ c) → (a && b) ≡ (a && c)
and_same true b c f = f refl
and_same false b c f = refl

repeated_first : (a : ℕ) (list : List ℕ) → repeated_list (a ∷ list) ≡ (has list a || repeated_list list)
unfolding has_repeat
repeated_first a list = repeated_is (a ∷ list) ∙ rw (has_is list a, repeated_is list)

names_flagged : (t : List ℕ) (a : ℕ) (list : List ℕ) → occupied_list t list ≡ true → proper_alert t a ≡ true → below_marks (a ∷ list) ≡ true
unfolding occupied_list
names_flagged t a list o e = all_first (λ i. ltb (get_or (a ∷ list) i 0) marks) (length list)
    ∙ rw (alert_flagged t a e, all_intro (λ i. ltb (get_or list i 0) marks) (length list) (λ i l. occupied_flagged t (get_or list i 0) (all_at_lem (λ i. occupied_at t (get_or list i 0)) (length list) o i l)))

-- ONE WALK over a list: each handle is occupied, and neither the alert nor one before it
shuffle : (a b c d : Bool) → ((a && b) && (c && d)) ≡ ((a && c) && (b && d))
shuffle true true c d = refl
shuffle true false c d = sym (and-false c)
shuffle false b c d = refl

all_both : (f g : ℕ → Bool) (n : ℕ) → all_below (λ i. f i && g i) n ≡ (all_below f n && all_below g n)
unfolding fold_below
all_both f g zero = refl
all_both f g (suc n) = rw (all_both f g n) (shuffle (all_below f n) (all_below g n) (f n) (g n))

abbrev pub seen_names : ℕ → List ℕ → ℕ → List ℕ
seen_names alert list i = seen_below (flag_of (alert ∷ list)) (suc i)

abbrev pub once_at : List ℕ → List ℕ → ℕ → ℕ → Bool
once_at t list alert i = occupied_at t (get_or list i 0) && eqb (get_or (seen_names alert list i) (get_or list i 0 % marks) 0) 0

pub seen_alert : (alert : ℕ) (list : List ℕ) → set (replicate marks 0) (alert % marks) 1 ≡ seen_names alert list 0
unfolding fold_below
seen_alert alert list = refl

pub seen_more : (alert : ℕ) (list : List ℕ) (i : ℕ) {seen : List ℕ} → seen ≡ seen_names alert list i → set seen (get_or list i 0 % marks) 1 ≡ seen_names alert list (i + 1)
unfolding fold_below
seen_more alert list i e = rw (add-one, e)

once_fresh : (alert : ℕ) (list : List ℕ) → below_marks (alert ∷ list) ≡ true → all_below (λ i. fresh_at (flag_of (alert ∷ list)) (suc i)) (length list) ≡ not (has list alert || repeated_list list)
unfolding fold_below
once_fresh alert list b = let f = flag_of (alert ∷ list) in let z : fresh_at f 0 ≡ true = rw (seen_flag f 0 (f 0) (mod-lt _ (omega arith))) in
    ap (λ (x : Bool). x && all_below (λ i. fresh_at f (suc i)) (length list)) (sym z) ∙ sym (all_first (fresh_at f) (length list)) ∙ distinct_is (alert ∷ list) b ∙ ap not (repeated_first alert list)

module _ (t list : List ℕ) (mode alert : ℕ) (z : mode ≡ 0 → ⊥) where
  once_is : proper_alert t alert ≡ true → all_below (once_at t list alert) (length list) ≡ proper_handles t mode list alert
  unfolding proper_handles occupied_list
  once_is a = let occ : ℕ → Bool = λ i. occupied_at t (get_or list i 0) in
      rw (ne_eqb mode 0 z) (all_both occ (λ i. fresh_at (flag_of (alert ∷ list)) (suc i)) (length list)
      ∙ and_same (all_below occ (length list)) _ (not (has list alert || repeated_list list)) (λ q. once_fresh alert list (names_flagged t alert list q a)))

  -- walked to the end
  pub once_all : {n : ℕ} → n ≡ length list → all_below (once_at t list alert) n ≡ true → proper_alert t alert ≡ true → true ≡ proper_handles t mode list alert
  once_all e y a = sym (let q : all_below (once_at t list alert) (length list) ≡ true = rw e at y in q) ∙ once_is a

  -- or left at the i-th handle
  module _ (i : ℕ) (l : i < length list) where
    once_out : once_at t list alert i ≡ false → proper_alert t alert ≡ true → false ≡ proper_handles t mode list alert
    once_out n a = by_bool (all_below (once_at t list alert) (length list)) (λ y. clash (all_at_lem (once_at t list alert) (length list) y i l) n) (λ m. sym m) ∙ once_is a

    pub once_empty : {here : Bool} → here ≡ occupied_at t (get_or list i 0) → not here ≡ true → proper_alert t alert ≡ true → false ≡ proper_handles t mode list alert
    once_empty {here} e n = once_out (let q : occupied_at t (get_or list i 0) ≡ false = sym e ∙ not_true here n in rw q)

    pub once_again : {seen : List ℕ} → seen ≡ seen_names alert list i → (get_or seen (get_or list i 0 % marks) 0 ≡ 0 → ⊥) → proper_alert t alert ≡ true → false ≡ proper_handles t mode list alert
    once_again {seen} e n = once_out (rw (sym e, ne_eqb _ 0 n, and-false (occupied_at t (get_or list i 0))))

    pub once_more : {here : Bool} {seen : List ℕ} → all_below (once_at t list alert) i ≡ true → here ≡ occupied_at t (get_or list i 0) → not here ≡ false → seen ≡ seen_names alert list i → get_or seen (get_or list i 0 % marks) 0 ≡ 0 → all_below (once_at t list alert) (i + 1) ≡ true
    unfolding fold_below
    once_more {here} {seen} y h n e x = rw (add-one, y, sym h, not_false here n, sym e, eq-eqb _ 0 x)
