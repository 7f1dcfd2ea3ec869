-- The structs of the C interface tell what a read found, or its refusal.
use Rattle.std.specs.Prelude.{◌≡◌, ℕ, List, Option, Result}
use Rattle.model.specs.Calls.{nothing_lent}
use Rattle.cells.specs.Calls.{answered}
use Rattle.kinds.specs.declared.refusal.Refusal.{Refusal}
use Rattle.calls.specs.Values.{left_by, numbers, mutex_numbers}
use Rattle.ntsync_reads.specs.declared.SemaphoreState.{SemaphoreState}
use Rattle.ntsync_reads.specs.declared.MutexState.{MutexState}
use Rattle.ntsync_reads.specs.declared.EventState.{EventState}

abbrev pub SemaphoreTold : Result (ℕ × ℕ) Refusal → SemaphoreState → Type 0
SemaphoreTold r s = (t : List ℕ) → answered s.answer s.count s.max t nothing_lent ≡ left_by numbers r t

abbrev pub MutexTold : Result (Option (ℕ × ℕ)) Refusal → MutexState → Type 0
MutexTold r s = (t : List ℕ) → answered s.answer s.owner s.count t nothing_lent ≡ left_by mutex_numbers r t

abbrev pub EventTold : Result (ℕ × ℕ) Refusal → EventState → Type 0
EventTold r s = (t : List ℕ) → answered s.answer s.signaled s.manual t nothing_lent ≡ left_by numbers r t
