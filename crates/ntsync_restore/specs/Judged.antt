-- What the answer and the tables of the call's own show of a text that was judged; what the host sees then.
use Rattle.std.specs.Prelude.{◌≡◌, [], ◌∷◌, List, ℕ, Result, Ok, Err, IsOkAnd, IsErrAnd}
use Rattle.model.specs.Calls.{nothing_lent}
use Rattle.model.specs.Layout.{encode}
use Rattle.model.specs.Restore.{Restored, accepted, refused}
use Rattle.model.specs.Steps.{Seen, sees}
use Rattle.ntsync_restore.specs.declared.Refused.{Refused}
use Rattle.ntsync_restore.specs.declared.Refused.TheVariants.{Corrupt, NotASnapshot}
use Rattle.ntsync_restore.specs.declared.Restored.{Restored as Told}

abbrev pub JudgedAs : Restored → Result (Unit {0}) Refused → List ℕ → Type 0
JudgedAs (accepted s) r read = IsOkAnd r (λ _. read ≡ encode s)
JudgedAs (refused offset) r read = IsErrAnd r (λ e. e ≡ NotASnapshot offset)

-- the answer, and the offset with it, before the tables
abbrev pub told_by : Result (Unit {0}) Refused → List ℕ → Seen
told_by (Ok _) t = sees (0 ∷ 0 ∷ 0 ∷ 0 ∷ []) nothing_lent t
told_by (Err Corrupt) t = sees (9 ∷ 0 ∷ 0 ∷ 0 ∷ []) nothing_lent t
told_by (Err (NotASnapshot offset)) t = sees (13 ∷ offset ∷ 0 ∷ 0 ∷ []) nothing_lent t

abbrev pub RestoredBy : Result (Unit {0}) Refused → Told → Type 0
RestoredBy r s = (t : List ℕ) → sees (s.answer ∷ s.offset ∷ 0 ∷ 0 ∷ []) nothing_lent t ≡ told_by r t
