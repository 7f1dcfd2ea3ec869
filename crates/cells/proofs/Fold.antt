-- The laws that a counting loop cites: a fold grows by one index, a search stops or goes on.
use Prim.Native.Nat.{ℕ, suc, ◌+◌, ◌-◌, ◌<◌, ◌≤◌}
use mathlib.Core.Path.{◌≡◌, refl}
use mathlib.Core.Bool.{Bool, true, false, ◌||◌, cond}
use native.Mathlib.Numerals.{add-one}
use native.Mathlib.Omega.{arith}
use Rattle.cells.specs.Fold.{fold_below, some_below, search_from}

module _ {A : Type 0} (step : A → ℕ → A) (a : A) where
  pub fold_none : a ≡ fold_below step a 0
  unfolding fold_below
  fold_none = refl

  pub fold_more : (i : ℕ) → step (fold_below step a i) i ≡ fold_below step a (i + 1)
  unfolding fold_below
  fold_more i = rw add-one

-- one more index at which f may hold
pub some_more : (f : ℕ → Bool) (i : ℕ) {found here : Bool} → found ≡ some_below f i → here ≡ f i → (found || here) ≡ some_below f (i + 1)
some_more f i e b = rw (e, b) (fold_more (λ (q : Bool) j. q || f j) false i)

-- a search from i to the end n of a counting loop
module _ (f : ℕ → Bool) where
  search_step : (i n : ℕ) → i < n → search_from f i (n - i) ≡ cond (f i) i (search_from f (i + 1) (n - (i + 1)))
  unfolding search_from
  search_step i n h = let e : n - i ≡ suc (n - (i + 1)) = omega arith in rw (e, add-one)

  pub search_found : (i n : ℕ) → i < n → f i ≡ true → search_from f i (n - i) ≡ i
  search_found i n h e = rw (search_step i n h, e)

  pub search_on : (i n : ℕ) → i < n → f i ≡ false → search_from f i (n - i) ≡ search_from f (i + 1) (n - (i + 1))
  search_on i n h e = rw (search_step i n h, e)

  pub search_end : (i n : ℕ) → n ≤ i → search_from f i (n - i) ≡ i
  unfolding search_from
  search_end i n h = let e : n - i ≡ 0 = omega arith in rw e
