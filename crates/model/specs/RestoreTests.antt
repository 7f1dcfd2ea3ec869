-- "Its snapshot is this text" as the list of tests that code makes; proved equivalent (theorem `restored_by_tests`), so
-- it need not be believed.
use Rattle.std.specs.Prelude.{Bool, true, ◌&&◌, List, [], ◌∷◌, ◌++◌, map, ℕ, ◌%◌, length, eqb, ltb}
use Rattle.model.specs.Sizes.{word32}
use Rattle.model.specs.Basics.{all_of, joined}
use Rattle.model.specs.Objects.{Object}
use Rattle.model.specs.Waits.{Wait}
use Rattle.model.specs.Snapshot.{line, object_text, wait_text, byte_sum}
use Rattle.model.specs.Reading.{Lines}

-- numbers that rise, from above `last`
unfoldable pub rising : ℕ → List ℕ → Bool
rising last [] = true
rising last (n ∷ ns) = ltb last n && rising n ns

abbrev pub handles : List (ℕ × Object) → List ℕ
handles os = map (λ x. x.0) os

abbrev pub tickets : List Wait → List ℕ
tickets ws = map (λ w. w.ticket) ws

-- the lines before the sum, written again
abbrev pub entry_text : ℕ × Object → List ℕ
entry_text x = object_text x.0 x.1

abbrev pub body_text : Lines → List ℕ
body_text l = line "next=" l.next ++ (line "objects=" (length l.objects) ++ (joined entry_text l.objects
    ++ (line "waits=" (length l.waits) ++ joined wait_text l.waits)))

-- handles rise, tickets rise, the sum is that of the lines before it, no bytes are left
abbrev pub in_order : Lines → List ℕ → Bool
in_order l rest = all_of (rising 0 (handles l.objects) ∷ rising 0 (tickets l.waits)
    ∷ eqb l.sum (byte_sum (body_text l) % word32) ∷ eqb (length rest) 0 ∷ [])
