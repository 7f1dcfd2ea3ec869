-- What a call that wakes leaves, as the definitions of `cells` have it.
use Rattle.std.specs.Prelude.{◌≡◌, ℕ, List, [], Result, Ok, Err}
use Rattle.model.specs.Calls.{wake_lent}
use Rattle.cells.specs.Objects.{named, store}
use Rattle.cells.specs.Walk.{wake_cells}
use Rattle.cells.specs.Calls.{Result as Left, refused_with, woke}
use Rattle.kinds.specs.Values.{cells_of}
use Rattle.kinds.specs.declared.object.Object.{Object}
use Rattle.kinds.specs.Refusals.{number_of}
use Rattle.kinds.specs.declared.refusal.Refusal.{Refusal}
use Rattle.signals.specs.declared.Woke.{Woke}
use Rattle.signals.specs.declared.Changed.{Changed as Told}

abbrev pub left_by : Result Woke Refusal → List ℕ → List ℕ → Left
left_by (Ok w) t wake = record { answer = 0; first = w.previous; second = 0; woken = w.woken; tables = t; wake = wake; buffer = [] }
left_by (Err r) t wake = refused_with (number_of r) t (wake_lent wake)

-- as C sees it
abbrev pub told_by : Result Woke Refusal → Told
told_by (Ok w) = record { answer = 0; previous = w.previous; woken = w.woken }
told_by (Err r) = record { answer = number_of r; previous = 0; woken = 0 }

-- A RULE may be called on the object that h names
abbrev pub OnNamed : (Object → Type 0) → ℕ → List ℕ → Type 0
OnNamed pre h t = (o : Object) → cells_of o ≡ named t h → pre o

-- what its answer leaves
abbrev pub changed_to : Result (ℕ × Object) Refusal → ℕ → List ℕ → List ℕ → Left
changed_to (Ok a) h t wake = woke a.0 (wake_cells (store t h (cells_of a.1)) h wake) (wake_lent wake)
changed_to (Err e) h t wake = refused_with (number_of e) t (wake_lent wake)

-- what is left is what its answer leaves
abbrev pub ChangedBy : (Object → Result (ℕ × Object) Refusal → Type 0) → ℕ → List ℕ → List ℕ → Left → Type 0
ChangedBy post h t wake left = (o : Object) × (a : Result (ℕ × Object) Refusal) × (cells_of o ≡ named t h) × post o a × (left ≡ changed_to a h t wake)
