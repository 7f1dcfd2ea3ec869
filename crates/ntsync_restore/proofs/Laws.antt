-- From what was read and tested to the meaning's call.
use mathlib.Core.Path.{◌≡◌, refl, ap, sym, ◌∙◌}
use mathlib.Core.Bool.{Bool, true, false, not, cond, and-true}
use mathlib.Core.List.{List, [], ◌∷◌}
use Prim.Native.Nat.{ℕ, ◌-◌}
use lib.ListN.{length, replicate}
use Rattle.model.specs.Basics.{all_of}
use Rattle.model.specs.Calls.{nothing_lent}
use Rattle.model.specs.Layout.{table_length, encode, valid_state, valid_tables}
use Rattle.model.specs.Steps.{Outcome, seen, unaltered}
use Rattle.model.specs.Reading.{good, Lines, read_snapshot}
use Rattle.model.specs.Restore.{shown, quiet, Restored, accepted, refused, restored, by_restored, unread, restore_tables}
use Rattle.model.specs.RestoreTests.{in_order}
use Rattle.model.proofs.Logic.{by_bool}
use Rattle.model.proofs.Validity.{test_valid}
use Rattle.model.proofs.ReadExactly.{Sensible, snapshot_exact}
use Rattle.model.proofs.Theorems.{reading, restored_by_tests}
use Rattle.cells.specs.Validity.{valid_cells}
use Rattle.cells.specs.Attempt.{some_servable}
use Rattle.refine.proofs.Validity.{Words, valid_cells_lem}
use Rattle.refine.proofs.Quiet.{quiet_is}
use Rattle.model.specs.Waits.{State}
use Rattle.model.proofs.Cells.{Shaped}
use Rattle.reader.specs.Values.{AllStored, Stopped}
use Rattle.ntsync_restore.specs.Judged.{JudgedAs, told_by}
use Rattle.std.specs.Prelude.{Result, Ok, Err, IsErr, IsErrAnd}
use Rattle.ntsync_restore.specs.declared.Refused.{Refused}
use Rattle.ntsync_restore.specs.declared.Refused.TheVariants.{Corrupt, NotASnapshot}
use Rattle.reader.proofs.Storing.{built_is, shown_shaped, shaped_test}

-- THE TESTS of what was read
module _ (t : List ℕ) where
  abbrev tests : Bool → List Bool
  tests o = o ∷ valid_tables t ∷ not (some_servable t) ∷ []

  pub not_in_order : {o : Bool} → o ≡ false → false ≡ all_of (tests o)
  unfolding all_of
  not_in_order e = rw e

  module _ (words : Words t) {v o : Bool} (q : v ≡ valid_cells t) (y : o ≡ true) where
    found : valid_tables t ≡ v
    found = sym (q ∙ valid_cells_lem t words)

    pub not_valid : v ≡ false → false ≡ all_of (tests o)
    unfolding all_of
    not_valid n = rw (y, found, n)

    pub if_quiet : v ≡ true → not (some_servable t) ≡ all_of (tests o)
    unfolding all_of
    if_quiet g = rw (y, found, g) (sym (and-true (not (some_servable t))))

three_valid : (o q : Bool) → all_of (o ∷ true ∷ q ∷ []) ≡ all_of (true ∷ q ∷ o ∷ [])
unfolding all_of
three_valid true q = refl
three_valid false true = refl
three_valid false false = refl

three_invalid : (o q p : Bool) → all_of (o ∷ false ∷ q ∷ []) ≡ all_of (false ∷ p ∷ o ∷ [])
unfolding all_of
three_invalid true q p = refl
three_invalid false q p = refl

-- the tests of code are those of the meaning
tests_mean : (s : State) (o : Bool) → Shaped s → all_of (o ∷ valid_tables (encode s) ∷ not (some_servable (encode s)) ∷ []) ≡ all_of (valid_state s ∷ quiet s ∷ o ∷ [])
tests_mean s o g = rw (shaped_test s g) (by_bool (valid_state s)
    (λ v. rw (v, quiet_is s (test_valid s v)) (three_valid o (quiet s)))
    (λ n. rw n (three_invalid o (not (some_servable (encode s))) (quiet s))))

judged_by : (text : List ℕ) (l : Lines) (rest : List ℕ) (a : Bool) → read_snapshot text ≡ good l rest → a ≡ all_of (valid_state (shown l) ∷ quiet (shown l) ∷ in_order l rest ∷ []) → restored text ≡ cond a (accepted (shown l)) (refused 0)
judged_by text l rest a e q = restored_by_tests text ∙ rw (e, q)

-- WHAT WAS READ
pub record Shown (text end : List ℕ) (fine : Bool) : Type 0 where
  pub lines : Lines
  pub rest : List ℕ
  pub read : read_snapshot text ≡ good lines rest
  pub cells : end ≡ encode (shown lines)
  pub order : fine ≡ in_order lines rest
  pub shaped : Shaped (shown lines)

abbrev pub blank : List ℕ
blank = replicate table_length 0

well_read : (text end : List ℕ) (fine : Bool) → AllStored text blank end fine → Shown text end fine
well_read text end fine h = let g : Sensible h.lines = (snapshot_exact.exact text h.lines h.rest h.reads).1 in
    record { lines = h.lines; rest = h.rest; read = h.reads; cells = h.kept ∙ built_is h.lines g; order = h.order; shaped = shown_shaped h.lines g }

-- THE TEXT, judged
pub not_read : (text from end : List ℕ) → Stopped text from → JudgedAs (restored text) (Err (NotASnapshot (length text - length from))) end
unfolding restored
not_read text from end h = rw h.reads refl

module _ (text end : List ℕ) (fine : Bool) (h : AllStored text blank end fine) {a : Bool} (q : a ≡ all_of (fine ∷ valid_tables end ∷ not (some_servable end) ∷ [])) where
  read : Shown text end fine
  read = well_read text end fine h

  state : State
  state = shown read.lines

  judged : restored text ≡ cond a (accepted state) (refused 0)
  unfolding state
  judged = judged_by text read.lines read.rest a read.read
      (q ∙ (ap (λ (u : List ℕ). all_of (fine ∷ valid_tables u ∷ not (some_servable u) ∷ [])) read.cells
      ∙ (ap (λ (o : Bool). all_of (o ∷ valid_tables (encode (shown read.lines)) ∷ not (some_servable (encode (shown read.lines))) ∷ [])) read.order
      ∙ tests_mean (shown read.lines) (in_order read.lines read.rest) read.shaped)))

  known : {b : Bool} → a ≡ b → restored text ≡ cond b (accepted state) (refused 0)
  known e = judged ∙ ap (λ (b : Bool). cond b (accepted state) (refused 0)) e

  pub not_accepted : a ≡ false → JudgedAs (restored text) (Err (NotASnapshot 0)) end
  not_accepted n = rw (known n) refl

  pub read_back : a ≡ true → JudgedAs (restored text) (Ok tt) end
  unfolding state
  read_back e = rw (known e) read.cells

-- THE CALL
-- what a `?` hands on of a refusal
pub told_on : (r : Result (Unit {0}) Refused) (e : Refused) (t : List ℕ) → IsErr r × IsErrAnd r (λ x. x ≡ e) → told_by (Err e) t ≡ told_by r t
told_on (Ok _) e t h = absurd h.1
told_on (Err d) e t h = rw h.1

module _ (t text : List ℕ) where
  pub wrong_length : (length t ≡ table_length → ⊥) → seen (restore_tables t text) ≡ told_by (Err Corrupt) t
  wrong_length n = ap seen ((reading t text).1 n)

  abbrev outcome : Restored → Outcome (List ℕ)
  outcome o = by_restored o (λ s. unaltered 0 nothing_lent (encode s)) (λ offset. unread offset t)

  -- the lent tables are as they were, or those that were read
  module _ (full : length t ≡ table_length) (end : List ℕ) where
    told : restore_tables t text ≡ outcome (restored text)
    told = (reading t text).0 full

    refusal : (o : Restored) (e : Refused) → JudgedAs o (Err e) end → seen (outcome o) ≡ told_by (Err e) t
    refusal (accepted s) e h = absurd h
    refusal (refused offset) e h = rw h

    acceptance : (o : Restored) → JudgedAs o (Ok tt) end → seen (outcome o) ≡ told_by (Ok tt) end
    acceptance (accepted s) h = rw h
    acceptance (refused offset) h = absurd h

    pub refused_whole : (e : Refused) → JudgedAs (restored text) (Err e) end → seen (restore_tables t text) ≡ told_by (Err e) t
    refused_whole e h = ap seen told ∙ refusal (restored text) e h

    pub accepted_whole : JudgedAs (restored text) (Ok tt) end → seen (restore_tables t text) ≡ told_by (Ok tt) end
    accepted_whole h = ap seen told ∙ acceptance (restored text) h
