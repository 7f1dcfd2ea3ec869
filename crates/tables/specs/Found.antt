-- A search's result: the index that it found, or nothing where the definition that it follows has its end.
use Rattle.std.specs.Prelude.{ℕ, ◌<◌, ◌≡◌, Option, Some, None}

abbrev pub Found : Option ℕ → ℕ → ℕ → Type 0
Found (Some i) at end = (i ≡ at) × (i < end)
Found None at end = end ≡ at
