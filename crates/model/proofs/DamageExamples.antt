-- Newly made tables, and damaged forms of them, each corrupt by the line of document 01's list that it breaks. (By lines and
-- not by computing `valid_tables`: that reads thousands of cells by their index.)
use mathlib.Core.Path.{◌≡◌, refl}
use mathlib.Core.Bool.{true}
use mathlib.Core.List.{[], ◌∷◌, ◌++◌}
use Prim.Native.Nat.{ℕ, ◌+◌, ◌-◌, ◌≤◌}
use native.Mathlib.Omega.{arith}
use lib.Dec.{lit<}
use lib.ListN.{set, take}
use Rattle.model.specs.Sizes.{wait_places}
use Rattle.model.specs.Basics.{joined}
use Rattle.model.specs.Waits.{initial}
use Rattle.model.specs.Layout.{wait_size, table_length, object_cells, wait_cells, encode, valid_tables}
use Rattle.model.proofs.History.{initial_settled}
use Rattle.model.proofs.Literal.{test_lines}
use Rattle.model.proofs.Validity.{encoded_valid}

pub example_valid : valid_tables (encode initial) ≡ true
example_valid = encoded_valid initial initial_settled.valid

-- next ticket 0; a number in an empty object place, in the last cell of an empty wait place; a cell too few, a cell too many
pub examples_corrupt : (valid_tables (set (encode initial) 0 0) ≡ true → ⊥)
    × (valid_tables (set (encode initial) 2 1) ≡ true → ⊥)
    × (valid_tables (set (encode initial) (table_length - 1) 1) ≡ true → ⊥)
    × (valid_tables (take (table_length - 1) (encode initial)) ≡ true → ⊥)
    × (valid_tables (encode initial ++ (0 ∷ [])) ≡ true → ⊥)
unfolding encode joined object_cells wait_cells
examples_corrupt = (
  λ e. let l : 1 ≤ 0 = (test_lines (set (encode initial) 0 0) e).next.0 in let z : ⊥ = omega arith in z,
  λ e. let l : ◌≡◌ {A = ℕ} 1 0 = (((test_lines (set (encode initial) 2 1) e).objects 0 (lit< tt)).zeros refl).0 in let z : ⊥ = omega arith in z,
  λ e. let l : ◌≡◌ {A = ℕ} 1 0 = (test_lines (set (encode initial) (table_length - 1) 1) e).free (wait_places - 1) (lit< tt) refl (wait_size - 1) (lit< tt) in let z : ⊥ = omega arith in z,
  λ e. let l : ◌≡◌ {A = ℕ} (table_length - 1) table_length = (test_lines (take (table_length - 1) (encode initial)) e).size in let z : ⊥ = omega arith in z,
  λ e. let l : ◌≡◌ {A = ℕ} (table_length + 1) table_length = (test_lines (encode initial ++ (0 ∷ [])) e).size in let z : ⊥ = omega arith in z,
)
