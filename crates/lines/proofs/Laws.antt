-- Laws of the line readers: a front, a number, its key, one of two lines, and one reading after another.
use Rattle.std.proofs.Common.{◌≡◌, ℕ, zero, suc, ◌+◌, ◌-◌, ◌*◌, ◌/◌, ◌%◌, ◌^◌, ◌<◌, ◌≤◌, Bool, true, false, cond, not, ◌&&◌, eqb, ltb, leb, List, [], ◌∷◌, ◌++◌, length, take, drop, Some, None, sym, refl, ap, ◌∙◌, append_assoc, append-nil, le_refl, arith, ltb-false, ltb-true, eq-eqb, ne_eqb, le-leb, leb-true}
use mathlib.Core.Option.{Option, none, some}
use Prim.Native.String.{String}
use lib.Dec.{leb-zero}
use borrow.Author.Tests.{lt-leb, eqb-true, eqb-false}
use Rattle.std.specs.Cmp.Lexicographic.{pointwise}
use Rattle.model.specs.Basics.{bit}
use Rattle.model.specs.Snapshot.{ascii, line}
use Rattle.model.specs.Reading.{Read, good, bad, by_read, Reader, ◌>>=◌, give, times, after, leading, number_line, word_line}
use Rattle.model.proofs.Logic.{by_bool, by_option, differ, clash, and_split, eqb_same}
use Rattle.model.proofs.Digits.{digits, digits_one, digits_more}
use Rattle.model.proofs.ReadExactly.{number_exact, by_reading}
use Rattle.lines.specs.Outcome.{either_of, figure, end_of, number_of, Stops, Told}
use Rattle.lines.specs.declared.NotDue.{NotDue}
use Rattle.std.specs.Prelude.{Result, Ok, Err}

-- A FRONT, by what `strip_prefix` tells
pub strip_none : (front text : List ℕ) → pointwise eqb (take (length front) text) front ≡ false → after front text ≡ none
unfolding after
strip_none [] text n = clash refl n
strip_none (b ∷ front) [] n = refl
strip_none (b ∷ front) (c ∷ text) n = by_bool (eqb c b)
    (λ y. rw (eq-eqb b c (sym (eqb-true c b y))) (strip_none front text (rw y at n)))
    (λ m. rw (ne_eqb b c (λ e. eqb-false c b m (sym e))))

pub strip_some : (front text : List ℕ) → pointwise eqb (take (length front) text) front ≡ true → after front text ≡ some (drop (length front) text)
unfolding after
strip_some [] text y = refl
strip_some (b ∷ front) [] y = clash y refl
strip_some (b ∷ front) (c ∷ text) y = let (e, r) = and_split (eqb c b) (pointwise eqb (take (length front) text) front) y in rw (eq-eqb b c (sym (eqb-true c b e))) (strip_some front text r)

after_some : (x y t rest : List ℕ) → after x t ≡ some rest → after (x ++ y) t ≡ after y rest
unfolding after
after_some [] y t rest e = let z : t ≡ rest = cc in rw z
after_some (b ∷ x) y [] rest e = differ cc
after_some (b ∷ x) y (c ∷ t) rest e = by_bool (eqb b c) (λ s. rw s (after_some x y t rest (rw s at e))) (λ n. let z : none ≡ some rest = rw n at e in differ cc)

after_none : (x y t : List ℕ) → after x t ≡ none → after (x ++ y) t ≡ none
unfolding after
after_none [] y t e = let z : some t ≡ none = e in differ cc
after_none (b ∷ x) y [] e = refl
after_none (b ∷ x) y (c ∷ t) e = by_bool (eqb b c) (λ s. rw s (after_none x y t (rw s at e))) (λ n. rw n)

after_same : (x y t : List ℕ) → after (x ++ y) (x ++ t) ≡ after y t
unfolding after
after_same [] y t = refl
after_same (b ∷ x) y t = rw (eqb_same b) (after_same x y t)

-- A DIGIT in front, or none
module _ (d : ℕ) where
  figure_some : (t : List ℕ) → figure t ≡ Some d → t ≡ (48 + d) ∷ drop 1 t
  figure_some [] h = differ cc
  figure_some (b ∷ t) h = by_bool (leb 48 b && ltb b 58)
      (λ y. let z : Some (b - 48) ≡ Some d = rw y at h in let k : b - 48 ≡ d = cc in let (j, _) = and_split (leb 48 b) (ltb b 58) y in let l = leb-true 48 b j in let e : 48 + d ≡ b = omega arith in rw e)
      (λ f. let z : None ≡ Some d = rw f at h in differ cc)

  figure_low : (t : List ℕ) → figure t ≡ Some d → d < 10
  figure_low [] h = differ cc
  figure_low (b ∷ t) h = by_bool (leb 48 b && ltb b 58)
      (λ y. let z : Some (b - 48) ≡ Some d = rw y at h in let k : b - 48 ≡ d = cc in let (_, j) = and_split (leb 48 b) (ltb b 58) y in let l = ltb-true b 58 j in omega arith)
      (λ f. let z : None ≡ Some d = rw f at h in differ cc)

  leading_more : (n : ℕ) (t : List ℕ) → figure t ≡ Some d → leading n t ≡ leading (10 * n + d) (drop 1 t)
  unfolding leading
  leading_more n [] h = differ cc
  leading_more n (b ∷ t) h = by_bool (leb 48 b && ltb b 58)
      (λ y. let z : Some (b - 48) ≡ Some d = rw y at h in let k : b - 48 ≡ d = cc in rw (y, k))
      (λ f. let z : None ≡ Some d = rw f at h in differ cc)

  digit_no_feed : (t : List ℕ) → figure t ≡ Some d → after (10 ∷ []) t ≡ none
  unfolding after
  digit_no_feed t h = rw (figure_some t h, ne_eqb 10 (48 + d) (λ e. omega arith))

leading_none : (n : ℕ) (t : List ℕ) → figure t ≡ None → leading n t ≡ n
unfolding leading
leading_none n [] h = refl
leading_none n (b ∷ t) h = by_bool (leb 48 b && ltb b 58) (λ y. let z : Some (b - 48) ≡ None = rw y at h in differ cc) (λ f. rw f)

leading_grows : (n : ℕ) (t : List ℕ) → n ≤ leading n t
unfolding leading
leading_grows n [] = le_refl n
leading_grows n (b ∷ t) = by_bool (leb 48 b && ltb b 58) (λ y. rw y (let h = leading_grows (10 * n + (b - 48)) t in omega arith)) (λ f. rw f (le_refl n))

zero_none : (t : List ℕ) → figure t ≡ None → after (48 ∷ (10 ∷ [])) t ≡ none
unfolding after
zero_none [] h = refl
zero_none (b ∷ t) h = rw (ne_eqb 48 b (λ e. let z : Some 0 ≡ None = rw (sym e) at h in differ cc))

-- THE WRITER'S DIGITS: one more; never a zero in front of others
digits_zero : digits 0 ≡ 48 ∷ []
digits_zero = digits_one 0 (omega arith)

digits_grow : (n d : ℕ) → 1 ≤ n → d < 10 → 10 * n + d < 10 ^ 20 → digits (10 * n + d) ≡ digits n ++ ((48 + d) ∷ [])
digits_grow n d l h u = let q : (10 * n + d) / 10 ≡ n = omega arith in let r : (10 * n + d) % 10 ≡ d = omega arith in
    digits_more (10 * n + d) (omega arith) u ∙ rw (q, r)

after_zero : (f n : ℕ) (x t : List ℕ) → n ≤ f → 1 ≤ n → n < 10 ^ 20 → after (digits n ++ x) (48 ∷ t) ≡ none
unfolding after
after_zero zero n x t f l h = absurd (let z : ⊥ = omega arith in z)
after_zero (suc f) n x t k l h = by_bool (ltb n 10)
    (λ y. rw (digits_one n (ltb-true n 10 y), ne_eqb (48 + n) 48 (λ e. omega arith)))
    (λ m. let g = ltb-false n 10 m in rw (digits_more n g h, append_assoc (digits (n / 10)) ((48 + n % 10) ∷ []) x)
    (after_zero f (n / 10) ((48 + n % 10) ∷ x) t (omega arith) (omega arith) (omega arith)))

-- A NUMBER AND ITS LINE FEED
-- n was read of the text u, and t is left of it
pub record Reached (high : ℕ) (u : List ℕ) (n : ℕ) (t : List ℕ) : Type 0 where
  pub most : n ≤ high
  pub front : u ≡ digits n ++ t
  pub value : leading 0 u ≡ leading n t

-- twenty digits are enough
below : (n high : ℕ) → n ≤ high → high < 2 ^ 64 → n < 10 ^ 20
below n high l h = let a : 2 ^ 64 ≡ 18446744073709551616 = refl in let b : 10 ^ 20 ≡ 100000000000000000000 = refl in omega arith

module _ (high : ℕ) (u : List ℕ) where
  number_bad : (leading 0 u ≤ high → after (digits (leading 0 u) ++ (10 ∷ [])) u ≡ none) → number_of [] 0 high u ≡ bad u
  unfolding number_of
  number_bad f = by_bool (leb (leading 0 u) high) (λ y. rw (leb-zero (leading 0 u), y, f (leb-true (leading 0 u) high y))) (λ n. rw (leb-zero (leading 0 u), n))

  -- no digit
  pub number_none : figure u ≡ None → number_of [] 0 high u ≡ bad u
  number_none h = number_bad (λ _. rw (leading_none 0 u h, digits_zero) (zero_none u h))

  -- above the bound
  over : (n d : ℕ) (t : List ℕ) → leading 0 u ≡ leading n t → figure t ≡ Some d → high < 10 * n + d → number_of [] 0 high u ≡ bad u
  over n d t e f h = number_bad (λ l. let m = leading_more d n t f in let g = leading_grows (10 * n + d) (drop 1 t) in absurd (let z : ⊥ = omega arith in z))

  -- the first digit
  module _ (d : ℕ) (f : figure u ≡ Some d) where
    pub first_over : high < d → number_of [] 0 high u ≡ bad u
    first_over h = over 0 d u refl f (omega arith)

    pub first_reached : d ≤ high → Reached high u d (drop 1 u)
    first_reached h = let z : 10 * 0 + d ≡ d = omega arith in record { most = h; front = figure_some d u f ∙ rw (digits_one d (figure_low d u f)); value = leading_more d 0 u f ∙ rw z }

  module _ (n : ℕ) (t : List ℕ) (r : Reached high u n t) where
    -- no further digit
    pub number_is : figure t ≡ None → number_of [] 0 high u ≡ end_of n u t
    unfolding number_of
    number_is d = let q : leading 0 u ≡ n = r.value ∙ leading_none n t d in let a : after (digits n ++ (10 ∷ [])) u ≡ after (10 ∷ []) t = ap (λ (x : List ℕ). after (digits n ++ (10 ∷ [])) x) r.front ∙ after_same (digits n) (10 ∷ []) t in
        rw (q, leb-zero n, le-leb n high r.most, a)

    module _ (d : figure t ≡ None) where
      pub number_unfed : after (10 ∷ []) t ≡ none → number_of [] 0 high u ≡ bad u
      number_unfed f = number_is d ∙ rw f

      pub number_read : (rest : List ℕ) → after (10 ∷ []) t ≡ some rest → number_of [] 0 high u ≡ good n rest
      number_read rest f = number_is d ∙ rw f

    module _ (d : ℕ) (f : figure t ≡ Some d) where
      pub next_over : high < 10 * n + d → number_of [] 0 high u ≡ bad u
      next_over h = over n d t r.value f h

      module _ (w : high < 2 ^ 64) where
        -- a digit after a leading zero
        pub zero_more : n ≡ 0 → number_of [] 0 high u ≡ bad u
        zero_more z = let e : u ≡ 48 ∷ t = r.front ∙ rw (z, digits_zero) in number_bad (λ l. by_bool (ltb 0 (leading 0 u))
            (λ y. ap (λ (x : List ℕ). after (digits (leading 0 u) ++ (10 ∷ [])) x) e ∙ after_zero (leading 0 u) (leading 0 u) (10 ∷ []) t (le_refl _) (ltb-true 0 (leading 0 u) y) (below (leading 0 u) high l w))
            (λ f'. let k = ltb-false 0 (leading 0 u) f' in let q : leading 0 u ≡ 0 = omega arith in rw (q, digits_zero, e) (after_same (48 ∷ []) (10 ∷ []) t ∙ digit_no_feed d t f)))

        pub next_reached : (n ≡ 0 → ⊥) → 10 * n + d ≤ high → Reached high u (10 * n + d) (drop 1 t)
        next_reached k h = record {
          most = h;
          front = r.front ∙ (ap (λ (x : List ℕ). digits n ++ x) (figure_some d t f) ∙ (sym (append_assoc (digits n) ((48 + d) ∷ []) (drop 1 t)) ∙ rw (digits_grow n d (omega arith) (figure_low d t f) (below (10 * n + d) high h w))));
          value = r.value ∙ leading_more d n t f;
        }

-- A KEY BEFORE IT
module _ (key : List ℕ) (low high : ℕ) (t : List ℕ) where
  pub keyless : after key t ≡ none → number_of key low high t ≡ bad t
  unfolding number_of
  keyless f = let n = leading 0 (drop (length key) t) in by_bool (leb low n && leb n high) (λ y. rw (y, after_none key (digits n ++ (10 ∷ [])) t f)) (λ m. rw m)

  module _ (k : after key t ≡ some (drop (length key) t)) where
    keyed : number_of key low high t ≡ by_read (number_of [] 0 high (drop (length key) t)) (λ from. bad t) (λ n rest. cond (leb low n) (good n rest) (bad t))
    unfolding number_of
    keyed = let n = leading 0 (drop (length key) t) in let a : Option (List ℕ) = after (digits n ++ (10 ∷ [])) (drop (length key) t) in
        rw (after_some key (digits n ++ (10 ∷ [])) t (drop (length key) t) k, leb-zero n) (by_bool (leb n high)
        (λ z. by_option a (λ o. rw (z, o) (by_bool (leb low n) (λ y. rw y) (λ y. rw y))) (λ rest o. rw (z, o) (by_bool (leb low n) (λ y. rw y) (λ y. rw y))))
        (λ z. rw z (by_bool (leb low n) (λ y. rw y) (λ y. rw y))))

    -- as code reads the two: the key, then the number
    pub no_number : (number_of [] 0 high (drop (length key) t) ≡ bad (drop (length key) t)) → number_of key low high t ≡ bad t
    no_number h = keyed ∙ rw h

    module _ (n : ℕ) (rest : List ℕ) (h : number_of [] 0 high (drop (length key) t) ≡ good n rest) where
      pub too_low : n < low → number_of key low high t ≡ bad t
      too_low l = keyed ∙ rw (h, lt-leb low n l)

      pub in_range : low ≤ n → number_of key low high t ≡ good n rest
      in_range l = keyed ∙ rw (h, le-leb low n l)

-- what code reads is a line of the meaning; to be read, no proof needs it (docs/DECISIONS.md, 76)
pub number_of_lem : (key : String) (low high : ℕ) (t : List ℕ) → number_line key low high t ≡ number_of (ascii key) low high t
unfolding number_line number_of line
number_of_lem key low high t = refl

-- A REFUSAL READS NOTHING: after one of `Lines::number` or `Lines::either` the lines that are left are those that were; to be
-- read, no proof needs them
bad_same : {A : Type 0} {t from : List ℕ} → ◌≡◌ {A = Read A} (bad t) (bad from) → from ≡ t
bad_same h = cc

module _ (t rest : List ℕ) (e : NotDue) where
  pub number_stays : (key : List ℕ) (low high : ℕ) → Stops (number_of key low high t) rest e → rest ≡ t
  unfolding number_of
  number_stays key low high (h, l) = let n = leading 0 (drop (length key) t) in l ∙ by_bool (leb low n && leb n high)
      (λ y. by_option (after (key ++ (digits n ++ (10 ∷ []))) t)
      (λ o. bad_same (rw (y, o) at h)) (λ s o. let z : good n s ≡ bad e.from.now = rw (y, o) at h in differ cc))
      (λ m. bad_same (rw m at h))

  pub either_stays : (first second : List ℕ) → Stops (either_of first second t) rest e → rest ≡ t
  unfolding either_of
  either_stays first second (h, l) = l ∙ by_option (after first t)
      (λ n. by_option (after second t) (λ m. bad_same (rw (n, m) at h)) (λ s m. let z : good 1 s ≡ bad e.from.now = rw (n, m) at h in differ cc))
      (λ s n. let z : good 0 s ≡ bad e.from.now = rw n at h in differ cc)

-- ONE READING AFTER ANOTHER, as code makes them
module _ {A B : Type 0} (m : Reader A) (f : A → Reader B) (t : List ℕ) where
  pub seq_on : {a : A} {rest : List ℕ} → m t ≡ good a rest → (m >>= f) t ≡ f a rest
  unfolding ◌>>=◌
  seq_on h = rw h

  pub seq_stop : {from : List ℕ} → m t ≡ bad from → (m >>= f) t ≡ bad from
  unfolding ◌>>=◌
  seq_stop h = rw h

-- what is told of a reading is told, by way of g, of it and what it gives; to be read, no proof needs it (docs/DECISIONS.md, 74)
module _ {A B C : Type 0} (m : Reader A) (f : C → A) (g : A → B) (t : List ℕ) where
  pub seq_last : (rest : List ℕ) (r : Result C NotDue) → Told f (m t) rest r → Told (λ v. g (f v)) ((m >>= λ a. give (g a)) t) rest r
  unfolding ◌>>=◌ give
  seq_last rest (Ok v) h = rw h
  seq_last rest (Err e) h = (rw h.0, h.1)

-- two of them read as one
module _ {A B C : Type 0} (m : Reader A) (f : A → Reader B) (g : B → Reader C) (t : List ℕ) where
  seq_assoc : (m >>= λ a. f a >>= g) t ≡ ((m >>= f) >>= g) t
  unfolding ◌>>=◌
  seq_assoc = by_reading (m t) (λ from e. rw e) (λ a rest e. rw e)

  pub both_on : {b : B} {rest : List ℕ} → (m >>= f) t ≡ good b rest → (m >>= λ a. f a >>= g) t ≡ g b rest
  both_on h = seq_assoc ∙ seq_on (m >>= f) g t h

  pub both_stop : {from : List ℕ} → (m >>= f) t ≡ bad from → (m >>= λ a. f a >>= g) t ≡ bad from
  both_stop h = seq_assoc ∙ seq_stop (m >>= f) g t h

-- AS MANY AS COUNTED: what was read, before what the rest gives
unfoldable pub ahead : {A : Type 0} → List A → Read (List A) → Read (List A)
ahead l (good k rest) = good (l ++ k) rest
ahead l (bad from) = bad from

module _ {A : Type 0} (m : Reader A) (n : ℕ) (text : List ℕ) where
  -- i are read, and this is left of the text
  pub record Begun (done : List A) (i : ℕ) (rest : List ℕ) : Type 0 where
    pub reads : times n m text ≡ ahead done (times (n - i) m rest)

  pub none_read : Begun [] 0 text
  unfolding ahead
  none_read = let z : n - 0 ≡ n = omega arith in record { reads = rw z (by_reading (times n m text) (λ from e. rw e) (λ l rest e. rw e)) }

  module _ (done : List A) (i : ℕ) (rest : List ℕ) (r : Begun done i rest) where
    pub next_bad : (from : List ℕ) → i < n → m rest ≡ bad from → times n m text ≡ bad from
    unfolding ahead times ◌>>=◌
    next_bad from l h = let z : n - i ≡ suc (n - i - 1) = omega arith in r.reads ∙ rw (z, h)

    pub next_read : (a : A) (rest' : List ℕ) → i < n → m rest ≡ good a rest' → Begun (done ++ (a ∷ [])) (i + 1) rest'
    unfolding ahead times ◌>>=◌ give
    next_read a rest' l h = let z : n - i ≡ suc (n - (i + 1)) = omega arith in
        record { reads = r.reads ∙ rw (z, h) (by_reading (times (n - (i + 1)) m rest') (λ from q. rw q) (λ x s q. rw (q, append_assoc done (a ∷ []) x))) }

    pub all_read : n ≤ i → times n m text ≡ good done rest
    unfolding ahead times give
    all_read l = let z : n - i ≡ 0 = omega arith in r.reads ∙ rw (z, append-nil done)

-- ONE OF TWO LINES, by their bytes and by what they mean
module _ {A : Type 0} (w v : String) (x y : A) (t : List ℕ) where
  either_read : word_line ((w, x) ∷ (v, y) ∷ []) t ≡ by_read (either_of (ascii w) (ascii v) t) (λ from. bad from) (λ n rest. good (cond (eqb n 0) x y) rest)
  unfolding word_line either_of
  either_read = by_option (after (ascii w) t) (λ n. rw n (by_option (after (ascii v) t) (λ m. rw m) (λ r e. rw e))) (λ r e. rw e)

  pub either_word : (b : Bool) {rest : List ℕ} → either_of (ascii w) (ascii v) t ≡ good (bit b) rest → word_line ((w, x) ∷ (v, y) ∷ []) t ≡ good (cond b y x) rest
  either_word true h = either_read ∙ rw h
  either_word false h = either_read ∙ rw h

  pub either_bad : {from : List ℕ} → either_of (ascii w) (ascii v) t ≡ bad from → word_line ((w, x) ∷ (v, y) ∷ []) t ≡ bad from
  either_bad h = either_read ∙ rw h

-- WHAT A NUMBER READ is: within its range; a flag's cell
pub number_most : (key : String) (low high : ℕ) (t : List ℕ) {v : ℕ} {rest : List ℕ} → number_line key low high t ≡ good v rest → v ≤ high
number_most key low high t {v} {rest} g = ((number_exact key low high).exact t v rest g).1.1

one_bit : (n : ℕ) → n ≤ 1 → bit (not (eqb n 0)) ≡ n
one_bit zero h = refl
one_bit (suc zero) h = refl
one_bit (suc (suc n)) h = absurd (let z : ⊥ = omega arith in z)

pub flag_cell : (key : String) (t : List ℕ) {v : ℕ} {rest : List ℕ} → number_line key 0 1 t ≡ good v rest → bit (not (eqb v 0)) ≡ v
flag_cell key t {v} g = one_bit v (number_most key 0 1 t g)
