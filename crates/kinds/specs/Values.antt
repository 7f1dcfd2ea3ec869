-- The values of this crate's structs, as the definitions of `cells` have them.
use Rattle.std.specs.Prelude.{◌≡◌, ℕ, cond, Result, Ok, Err, MatchResult}
use Rattle.model.specs.Calls.{Kind, bad_new}
use Rattle.cells.specs.Objects.{Fields, fields, no_fields, Changed, changed, if_held}
use Rattle.cells.specs.Calls.{new_fields}
use Rattle.kinds.specs.Refusals.{number_of}
use Rattle.kinds.specs.declared.refusal.Refusal.{Refusal}
use Rattle.kinds.specs.declared.object.Object.{Object}

-- an object by value is its four cells
abbrev pub cells_of : Object → Fields
cells_of x = fields x.kind x.count x.owner x.attribute

-- what a rule makes of an object: its next state; refused, the object as it was
abbrev pub changed_by : Fields → Result Object Refusal → Changed
changed_by x (Ok next) = changed 0 (cells_of next)
changed_by x (Err r) = changed (number_of r) x

-- what a constructor makes of an empty place: the new object, or EINVAL for its numbers
abbrev pub creation : Kind → ℕ → ℕ → Changed
creation k x y = cond (bad_new k x y) (changed 1 no_fields) (changed 0 (new_fields k x y))

-- whether `asking` holds the mutex x: a rule goes on to its next state, or is refused
abbrev pub HeldBy : {T : Type 0} → ℕ → Fields → Result T Refusal → Type 0
HeldBy asking x r = MatchResult r (λ _. (x.kind ≡ 2) × ((next : Fields) → changed 0 next ≡ if_held asking x next))
    (λ e. (next : Fields) → changed (number_of e) x ≡ if_held asking x next)
