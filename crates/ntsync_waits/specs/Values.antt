-- What the C struct tells of a wait.
use Rattle.std.specs.Prelude.{◌≡◌, ℕ, List, Result}
use Rattle.model.specs.Calls.{nothing_lent}
use Rattle.cells.specs.Calls.{answered}
use Rattle.kinds.specs.declared.refusal.Refusal.{Refusal}
use Rattle.waits.specs.declared.Outcome.{Outcome}
use Rattle.waits.specs.Values.{waited_by}
use Rattle.ntsync_waits.specs.declared.Waited.{Waited}

abbrev pub WaitedBy : Result Outcome Refusal → Waited → Type 0
WaitedBy r w = (t : List ℕ) → answered w.answer w.index w.ticket t nothing_lent ≡ waited_by r t
