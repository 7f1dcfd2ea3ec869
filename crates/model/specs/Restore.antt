-- Which texts are accepted, what state they show, the call, and histories with readings in them (3/13).
use Rattle.std.specs.Prelude.{◌≡◌, Bool, not, cond, List, [], ◌∷◌, ◌++◌, map, ◌↔◌, ℕ, ◌-◌, length, replicate, eqb}
use Rattle.model.specs.Sizes.{object_places, wait_places}
use Rattle.model.specs.Basics.{all_of, number, done, corrupt, not_a_snapshot}
use Rattle.model.specs.Objects.{Object, empty}
use Rattle.model.specs.Waits.{Wait, WaitPlace, free, waiting, State, initial, with_waits, put_at, servable}
use Rattle.model.specs.Waits.{any_waiting}
use Rattle.model.specs.Calls.{nothing_lent, Call, WithinWidths}
use Rattle.model.specs.Layout.{table_length, encode, valid_state, same_cells}
use Rattle.model.specs.Snapshot.{queue_from, snapshot_text}
use Rattle.model.specs.Steps.{Outcome, unaltered, holding, table_step, reference_step, make_tables}
use Rattle.model.specs.Notions.{◌is_in◌}
use Rattle.model.specs.Reading.{by_read, Lines, read_snapshot}

-- "Objects return to their places; waits fill the wait places by ticket."
unfoldable pub returned : List Object → List (ℕ × Object) → List Object
returned os [] = os
returned os (x ∷ xs) = returned (put_at os x.0 x.1) xs

abbrev pub lowest_places : List Wait → List WaitPlace
lowest_places ws = map waiting ws ++ replicate (wait_places - length ws) free

-- the state that the lines show
abbrev pub shown : Lines → State
shown l = record {
  objects = returned (replicate object_places empty) l.objects;
  waits = lowest_places l.waits;
  next = l.next;
}

-- "no queued wait could be served", as a test
abbrev pub quiet : State → Bool
quiet s = not (any_waiting (servable s.objects) s.waits)

pub data Restored : Type 0 where
  accepted : State → Restored
  refused : (offset : ℕ) → Restored

-- "The reader accepts exactly the texts that the writer can produce from sound tables in which no queued wait could be
-- served": the state that the lines show is valid and quiet, and its snapshot is this text; "else offset 0".
unfoldable pub judged : List ℕ → State → Restored
judged text s = cond (all_of (valid_state s ∷ quiet s ∷ same_cells (snapshot_text s) text ∷ []))
    (accepted s) (refused 0)

-- "Anything else is .. the offset of the first line that has not the key due there .." (the text's length if it ends
-- there: then nothing is left)
unfoldable pub restored : List ℕ → Restored
restored text =
    by_read (read_snapshot text) (λ from. refused (length text - length from)) (λ l rest. judged text (shown l))

abbrev pub by_restored {ℓ} : {B : Type ℓ} → Restored → (State → B) → (ℕ → B) → B
by_restored (accepted s) a r = a s
by_restored (refused offset) a r = r offset

-- THE CALL. "Of the lent tables only the lengths matter, else 9." "new answer 13, tables unaltered, with the offset"
abbrev pub unread : {Held : Type 0} → ℕ → Held → Outcome Held
unread offset h =
    record { answer = number not_a_snapshot; first = offset; second = 0; reports = []; lent = nothing_lent; held = h }

unfoldable pub restore_tables : List ℕ → List ℕ → Outcome (List ℕ)
restore_tables t text = cond (eqb (length t) table_length)
    (by_restored (restored text) (λ s. unaltered (number done) nothing_lent (encode s)) (λ o. unread o t))
    (unaltered (number corrupt) nothing_lent t)

-- the state with its waits in the lowest places by ticket
abbrev pub queue : State → List Wait
queue s = queue_from (length s.waits) 0 s.waits

abbrev pub placed : State → State
placed s = with_waits s (lowest_places (queue s))

-- "they differ at most in which wait places their waits fill"
pub record SameButPlaces (a b : State) : Type 0 where
  pub objects : a.objects ≡ b.objects
  pub next : a.next ≡ b.next
  pub waits : (w : Wait) → w is_in a.waits ↔ w is_in b.waits

-- ROWS OF HISTORIES: makings ("Making starts a new history"), readings and calls. "Demand 3's history may then begin at
-- an accepted picture, and its reckoning with what that text shows, so placed; a refused reading is a call in it that
-- changes nothing."
pub data Entry : Type 0 where
  making : Entry
  reading : (text : List ℕ) → Entry
  calling : Call → Entry

abbrev pub WithinEntry : Entry → Type 0
WithinEntry making = Unit {0}
WithinEntry (reading text) = Unit {0}
WithinEntry (calling c) = WithinWidths c

abbrev pub table_entry : List ℕ → Entry → Outcome (List ℕ)
table_entry t making = make_tables t
table_entry t (reading text) = restore_tables t text
table_entry t (calling c) = table_step t c

abbrev pub reference_entry : State → Entry → Outcome State
reference_entry s making = unaltered (number done) nothing_lent initial
reference_entry s (reading text) =
    by_restored (restored text) (λ r. unaltered (number done) nothing_lent r) (λ o. unread o s)
reference_entry s (calling c) = reference_step s c

-- WHAT A CALLER IS TOLD of an outcome, all but what is held: the answer, both numbers, the reports, every cell of the
-- lent wake list and buffer. In it a restored board is compared with one that never stopped.
abbrev pub reply : {Held : Type 0} → Outcome Held → Outcome (Unit {0})
reply o = holding (λ h. tt) o
