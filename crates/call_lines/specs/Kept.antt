-- What a call must leave alone: every element of the list from place `from` on is the value.
use Rattle.std.specs.Prelude.{ℕ, ◌≡◌, List, drop, All}

abbrev pub Kept : ℕ → List ℕ → ℕ → Type 0
Kept value list from = All (λ x. x ≡ value) (drop from list)
