-- What a creation leaves, as the definitions of `cells` have it.
use Rattle.std.specs.Prelude.{◌≡◌, ℕ, List, Result}
use Rattle.model.specs.Calls.{nothing_lent}
use Rattle.cells.specs.Calls.{answered}
use Rattle.kinds.specs.declared.refusal.Refusal.{Refusal}
use Rattle.calls.specs.Values.{left_by, number}
use Rattle.ntsync_objects.specs.declared.Created.{Created}

-- the struct tells a handle or a refusal
abbrev pub CreatedBy : Result ℕ Refusal → Created → Type 0
CreatedBy r c = (t : List ℕ) → answered c.answer c.handle 0 t nothing_lent ≡ left_by number r t
