-- What a snapshot leaves, as the definitions of `cells` have it.
use Rattle.std.specs.Prelude.{◌≡◌, ℕ, List, Result, Ok, Err}
use Rattle.model.specs.Calls.{buffer_lent}
use Rattle.cells.specs.Calls.{Result as Left, answered, refused_with}
use Rattle.kinds.specs.Refusals.{number_of}
use Rattle.kinds.specs.declared.refusal.Refusal.{Refusal}
use Rattle.ntsync_snapshot.specs.declared.Written.{Written}

-- the text's length and the buffer that has it, or a refusal and the buffer as it is
abbrev pub left_by : Result ℕ Refusal → List ℕ → List ℕ → Left
left_by (Ok n) t buffer = answered 0 n 0 t (buffer_lent buffer)
left_by (Err r) t buffer = refused_with (number_of r) t (buffer_lent buffer)

abbrev pub WrittenBy : Result ℕ Refusal → Written → Type 0
WrittenBy r w = (t buffer : List ℕ) → answered w.answer w.length 0 t (buffer_lent buffer) ≡ left_by r t buffer
