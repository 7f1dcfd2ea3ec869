-- One line of a text as code reads it: its digits, a number with its key, one of two lines; and what is told of a reading.
use Rattle.std.specs.Prelude.{◌≡◌, ℕ, ◌-◌, cond, ◌&&◌, List, [], ◌∷◌, ◌++◌, length, drop, nat_le, nat_lt, Option, Some, None, Result, MatchResult}
use Rattle.model.specs.Basics.{maybe}
use Rattle.model.specs.Snapshot.{digits_up_to}
use Rattle.model.specs.Reading.{Read, good, bad, Reader, after, leading}
use Rattle.lines.specs.declared.NotDue.{NotDue}

-- the digit that a text begins with
abbrev pub figure : List ℕ → Option ℕ
figure [] = None
figure (b ∷ text) = cond (nat_le 48 b && nat_lt b 58) (Some (b - 48)) None

-- n was read of u, and t is left: its line feed is due
abbrev pub end_of : ℕ → List ℕ → List ℕ → Read ℕ
end_of n u t = maybe (after (10 ∷ []) t) (bad u) (λ rest. good n rest)

-- `number_line` of the meaning, over the bytes of the key
unfoldable pub number_of : List ℕ → ℕ → ℕ → Reader ℕ
number_of key low high text = let n = leading 0 (drop (length key) text) in
    cond (nat_le low n && nat_le n high) (maybe (after (key ++ (digits_up_to 19 n ++ (10 ∷ []))) text) (bad text) (λ rest. good n rest)) (bad text)

-- which of two lines the text begins with: 0 or 1
unfoldable pub either_of : List ℕ → List ℕ → Reader ℕ
either_of first second text = maybe (after first text) (maybe (after second text) (bad text) (λ rest. good 1 rest)) (λ rest. good 0 rest)

-- what is told of a line that is not as due: the text from it on, where the lines that are left begin
abbrev pub Stops : {A : Type 0} → Read A → List ℕ → NotDue → Type 0
Stops read rest e = (read ≡ bad e.from.now) × (rest ≡ e.from.now)

-- WHAT IS TOLD of a reading, and of the lines that are left: the value, before them, or where it stops
abbrev pub Told : {A B : Type 0} → (B → A) → Read A → List ℕ → Result B NotDue → Type 0
Told f read rest r = MatchResult r (λ v. read ≡ good (f v) rest) (λ e. Stops read rest e)
