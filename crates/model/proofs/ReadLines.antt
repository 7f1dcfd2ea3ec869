-- What the writer writes is read back: a number, a word, one thing after another, as many as counted.
use mathlib.Core.Path.{◌≡◌, refl, ◌∙◌}
use mathlib.Core.Bool.{Bool, true, false, not}
use mathlib.Core.List.{List, [], ◌∷◌, ◌++◌, append_assoc}
use mathlib.Core.Option.{some}
use Prim.Native.Nat.{ℕ, zero, suc, ◌+◌, ◌-◌, ◌*◌, ◌/◌, ◌%◌, ◌^◌, ◌≤◌, ◌<◌}
use Prim.Native.String.{String}
use native.Mathlib.Omega.{arith}
use native.Mathlib.Nat.{pow-suc, div-lt_iff_lt-mul}
use lib.ListN.{length, drop}
use lib.Dec.{eqb, ltb, lit≤}
use borrow.Author.Tests.{ltb-true, lt-ltb, le-leb}
use Rattle.model.specs.Sizes.{never}
use Rattle.model.specs.Basics.{bit, joined, All}
use Rattle.model.specs.Snapshot.{ascii, digits_up_to, line}
use Rattle.model.proofs.Logic.{by_bool, eqb_same}
use Rattle.model.specs.Reading.{good, Reader, ◌>>=◌, give, times, after, leading, number_line, flag_line}

-- THE FORM OF EVERY LAW HERE: the reader takes the text x off any front, as a
pub record Reads {A : Type 0} (m : Reader A) (x : List ℕ) (a : A) : Type 0 where
  pub reads : (rest : List ℕ) → m (x ++ rest) ≡ good a rest

pub reads_then : {A B : Type 0} {m : Reader A} {x y : List ℕ} {a : A} {b : B} (f : A → Reader B) → Reads m x a → Reads (f a) y b → Reads (m >>= f) (x ++ y) b
unfolding ◌>>=◌
reads_then {x = x} {y = y} f p q = record { reads = λ rest. rw (append_assoc x y rest, p.reads (y ++ rest)) (q.reads rest) }

pub reads_give : {A : Type 0} (a : A) → Reads (give a) [] a
unfolding give
reads_give a = record { reads = λ rest. refl }

-- the last of several
pub reads_last : {A B : Type 0} {m : Reader A} {x : List ℕ} {a : A} (g : A → B) → Reads m x a → Reads (m >>= λ a. give (g a)) x (g a)
unfolding ◌>>=◌ give
reads_last g p = record { reads = λ rest. rw (p.reads rest) }

pub reads_times : {A : Type 0} (m : Reader A) (f : A → List ℕ) (l : List A) → All (λ a. Reads m (f a) a) l → Reads (times (length l) m) (joined f l) l
unfolding times joined
reads_times m f [] h = reads_give []
reads_times m f (a ∷ l) h = reads_then _ h.0 (reads_last (λ l. a ∷ l) (reads_times m f l h.1))

-- DIGITS
tenth : (k n : ℕ) → n < 10 ^ suc k → n / 10 < 10 ^ k
tenth k n h = let e = pow-suc 10 k in let l : n < 10 ^ k * 10 = omega arith in (div-lt_iff_lt-mul {k = 10} {x = n} {y = 10 ^ k} (let z : 0 < 10 = omega arith in z)).1 l

leading_digit : (m d : ℕ) (t : List ℕ) → d < 10 → leading m ((48 + d) ∷ t) ≡ leading (10 * m + d) t
unfolding leading
leading_digit m d t h = let e : 48 + d - 48 ≡ d = omega arith in rw (le-leb 48 (48 + d) (omega arith), lt-ltb (48 + d) 58 (omega arith), e)

leading_digits : (k n : ℕ) (t : List ℕ) → n < 10 ^ suc k → leading 0 (digits_up_to k n ++ t) ≡ leading n t
unfolding digits_up_to
leading_digits zero n t h = let z : 10 ^ 1 ≡ 10 = refl in let e : 10 * 0 + n % 10 ≡ n = omega arith in leading_digit 0 (n % 10) t (omega arith) ∙ rw e
leading_digits (suc k) n t h = by_bool (ltb n 10)
    (λ s. let l = ltb-true n 10 s in let e : 10 * 0 + n % 10 ≡ n = omega arith in rw s (leading_digit 0 (n % 10) t (omega arith) ∙ rw e))
    (λ s. let e : 10 * (n / 10) + n % 10 ≡ n = omega arith in rw (s, append_assoc (digits_up_to k (n / 10)) ((48 + n % 10) ∷ []) t)
    (leading_digits k (n / 10) ((48 + n % 10) ∷ t) (tenth (suc k) n h) ∙ (leading_digit (n / 10) (n % 10) t (omega arith) ∙ rw e)))

-- LINES
after_front : (x rest : List ℕ) → after x (x ++ rest) ≡ some rest
unfolding after
after_front [] rest = refl
after_front (b ∷ x) rest = rw (eqb_same b) (after_front x rest)

drop_front : (x rest : List ℕ) → drop (length x) (x ++ rest) ≡ rest
drop_front [] rest = refl
drop_front (b ∷ x) rest = drop_front x rest

leading_line : (key : String) (n : ℕ) (rest : List ℕ) → n < 10 ^ 20 → leading 0 (drop (length (ascii key)) (line key n ++ rest)) ≡ n
unfolding line leading
leading_line key n rest h = rw (append_assoc (ascii key) (digits_up_to 19 n ++ (10 ∷ [])) rest, drop_front (ascii key) ((digits_up_to 19 n ++ (10 ∷ [])) ++ rest), append_assoc (digits_up_to 19 n) (10 ∷ []) rest)
    (leading_digits 19 n (10 ∷ rest) h)

pub reads_number : (key : String) {low high : ℕ} (n : ℕ) → low ≤ n → n ≤ high → high ≤ never → Reads (number_line key low high) (line key n) n
unfolding number_line
reads_number key {low} {high} n l h b = record {
  reads = λ rest.
      let e : 10 ^ 20 ≡ 100000000000000000000 = refl in
      rw (leading_line key n rest (omega arith), le-leb low n l, le-leb n high h, after_front (line key n) rest);
}

pub reads_flag : (key : String) (b : Bool) → Reads (flag_line key) (line key (bit b)) b
reads_flag key true = reads_last (λ n. not (eqb n 0)) (reads_number key 1 (lit≤ tt) (lit≤ tt) (lit≤ tt))
reads_flag key false = reads_last (λ n. not (eqb n 0)) (reads_number key 0 (lit≤ tt) (lit≤ tt) (lit≤ tt))
