-- Loops as definitions: a fold over the indices below a count, and a search upwards.
use Rattle.std.specs.Prelude.{ℕ, zero, suc, ◌+◌, List, get_or, Bool, true, false, ◌&&◌, ◌||◌, cond}
use Rattle.std.specs.Int.Bits.{bit_or}

-- step at 0, 1, .. n - 1, from a
unfoldable pub fold_below : {A : Type 0} → (A → ℕ → A) → A → ℕ → A
fold_below step a zero = a
fold_below step a (suc n) = step (fold_below step a n) n

-- f holds at every index below n, at one of them
abbrev pub all_below : (ℕ → Bool) → ℕ → Bool
all_below f n = fold_below (λ b i. b && f i) true n

abbrev pub some_below : (ℕ → Bool) → ℕ → Bool
some_below f n = fold_below (λ b i. b || f i) false n

-- the first of the n indices from i at which f holds; i + n where there is none
unfoldable pub search_from : (ℕ → Bool) → ℕ → ℕ → ℕ
search_from f i zero = i
search_from f i (suc n) = let later = search_from f (suc i) n in cond (f i) i later

-- f 0 to f (n - 1), or'ed
abbrev pub or_below : (ℕ → ℕ) → ℕ → ℕ
or_below f n = fold_below (λ x i. bit_or x (f i)) 0 n

-- the cell k places after a
abbrev pub cell_from : List ℕ → ℕ → ℕ → ℕ
cell_from t a k = get_or t (a + k) 0
