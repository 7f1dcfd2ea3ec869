-- What a call that is lent nothing but the tables leaves: what it told, and the tables.
use Rattle.std.specs.Prelude.{ℕ, List, false, Option, Some, None, Result, Ok, Err}
use Rattle.model.specs.Calls.{nothing_lent}
use Rattle.cells.specs.Calls.{Result as Left, answered, refused_with, create_cells}
use Rattle.kinds.specs.Values.{cells_of}
use Rattle.kinds.specs.declared.object.Object.{Object}
use Rattle.kinds.specs.Refusals.{number_of}
use Rattle.kinds.specs.declared.refusal.Refusal.{Refusal}

-- what it tells where it takes effect, and else its refusal
abbrev pub left_by : {A : Type 0} → (A → List ℕ → Left) → Result A Refusal → List ℕ → Left
left_by told (Ok x) t = told x t
left_by told (Err r) t = refused_with (number_of r) t nothing_lent

abbrev pub done : {A : Type 0} → A → List ℕ → Left
done x t = answered 0 0 0 t nothing_lent

abbrev pub number : ℕ → List ℕ → Left
number n t = answered 0 n 0 t nothing_lent

abbrev pub numbers : ℕ × ℕ → List ℕ → Left
numbers x t = answered 0 x.0 x.1 t nothing_lent

-- a mutex's owner and count; of an abandoned one the answer alone tells
abbrev pub mutex_numbers : Option (ℕ × ℕ) → List ℕ → Left
mutex_numbers (Some x) t = numbers x t
mutex_numbers None t = answered 4 0 0 t nothing_lent

-- a wait that was cancelled: its answer alone tells
abbrev pub cancelled : {A : Type 0} → A → List ℕ → Left
cancelled x t = answered 6 0 0 t nothing_lent

-- an object whose numbers are no reason to refuse it
abbrev pub placed : Object → List ℕ → Left
placed o t = create_cells false (cells_of o) t nothing_lent
