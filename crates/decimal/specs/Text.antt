-- Text in a buffer: byte i of the text at position at + i, every other byte as it was.
use Rattle.std.specs.Prelude.{ℕ, ◌+◌, ◌≤◌, ◌≡◌, List, length}
use Rattle.std.proofs.lemmas.List.Edits.{sets}

-- the buffer has room for the text
abbrev pub Room : List ℕ → ℕ → List ℕ → Type 0
Room buf at text = at + length text ≤ length buf

-- written, r is the position after it
abbrev pub Wrote : List ℕ → ℕ → List ℕ → ℕ → List ℕ → Type 0
Wrote buf at text r end = (end ≡ sets buf at text) × (r ≡ at + length text)
