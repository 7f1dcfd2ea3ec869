-- Decimal digits: the two laws by which they are known, and how many there are.
use mathlib.Core.Path.{◌≡◌, refl, ap}
use mathlib.Core.List.{List, [], ◌∷◌, ◌++◌}
use Prim.Native.Nat.{ℕ, zero, suc, ◌+◌, ◌*◌, ◌/◌, ◌%◌, ◌^◌, ◌≤◌, ◌<◌}
use native.Mathlib.Omega.{arith}
use native.Mathlib.Nat.{le_refl, pow-suc, div-lt_iff_lt-mul}
use lib.ListN.{length, length-append}
use lib.Dec.{ltb}
use borrow.Author.Tests.{ltb-true, ltb-false, lt-ltb, le-ltb}
use Rattle.model.specs.Snapshot.{digits_up_to}
use Rattle.model.specs.Sizes.{word32, word64}
use Rattle.model.proofs.Logic.{by_bool}

-- a tenth has a digit less
tenth : (k n : ℕ) → n < 10 ^ suc k → n / 10 < 10 ^ k
tenth k n h = let e = pow-suc 10 k in let l : n < 10 ^ k * 10 = omega arith in (div-lt_iff_lt-mul {k = 10} {x = n} {y = 10 ^ k} (let z : 0 < 10 = omega arith in z)).1 l

-- one digit, or more
by_size {ℓ} : {P : Type ℓ} (n : ℕ) → (n < 10 → P) → (10 ≤ n → P) → P
by_size n one more = by_bool (ltb n 10) (λ t. one (ltb-true n 10 t)) (λ f. more (ltb-false n 10 f))

-- further steps add no digit
digits_enough : (f n : ℕ) → n < 10 ^ suc f → digits_up_to (suc f) n ≡ digits_up_to f n
unfolding digits_up_to
digits_enough zero n h = let z : 10 ^ 1 ≡ 10 = refl in rw (lt-ltb n 10 (omega arith))
digits_enough (suc f) n h = by_size n (λ s. rw (lt-ltb n 10 s))
    (λ l. rw (le-ltb n 10 l) (ap (λ (x : List ℕ). x ++ ((48 + n % 10) ∷ [])) (digits_enough f (n / 10) (tenth (suc f) n h))))

abbrev pub digits : ℕ → List ℕ
digits n = digits_up_to 19 n

-- THE TWO LAWS
pub digits_one : (n : ℕ) → n < 10 → digits n ≡ (48 + n) ∷ []
unfolding digits_up_to
digits_one n h = let e : n % 10 ≡ n = omega arith in rw (lt-ltb n 10 h, e)

pub digits_more : (n : ℕ) → 10 ≤ n → n < 10 ^ 20 → digits n ≡ digits (n / 10) ++ ((48 + n % 10) ∷ [])
unfolding digits_up_to
digits_more n l h = let e : digits_up_to 19 (n / 10) ≡ digits_up_to 18 (n / 10) = digits_enough 18 (n / 10) (tenth 19 n h) in rw (e, le-ltb n 10 l)

-- HOW MANY: at most suc k for a number below 10 ^ suc k
pub digits_bound : (f k n : ℕ) → n < 10 ^ suc k → length (digits_up_to f n) ≤ suc k
unfolding digits_up_to
digits_bound zero k n h = omega arith
digits_bound (suc f) zero n h = let z : 10 ^ 1 ≡ 10 = refl in rw (lt-ltb n 10 (omega arith)) (le_refl 1)
digits_bound (suc f) (suc k) n h = by_size n (λ s. rw (lt-ltb n 10 s) (omega arith))
    (λ l. rw (le-ltb n 10 l) (let a = length-append (digits_up_to f (n / 10)) ((48 + n % 10) ∷ []) in let b = digits_bound f k (n / 10) (tenth (suc k) n h) in omega arith))

pub digits_u32 : (n : ℕ) → n < word32 → length (digits n) ≤ 10
digits_u32 n h = digits_bound 19 9 n (let a : 2 ^ 32 ≡ 4294967296 = refl in let b : 10 ^ 10 ≡ 10000000000 = refl in omega arith)

pub digits_u64 : (n : ℕ) → n < word64 → length (digits n) ≤ 20
digits_u64 n h = digits_bound 19 19 n (let a : 2 ^ 64 ≡ 18446744073709551616 = refl in let b : 10 ^ 20 ≡ 100000000000000000000 = refl in omega arith)
