-- A call that wakes, as a closure over tables and wake list.
use Rattle.std.specs.Prelude.{◌≡◌, ℕ, List, [], ◌∷◌}
use Rattle.std.specs.Borrow.{MutBor}
use Rattle.model.specs.Calls.{Operation, wake_lent, asks}
use Rattle.model.specs.Steps.{table_step, seen, sees}
use Rattle.signals.specs.declared.Changed.{Changed}

-- it answers as the operation op does, on any tables and wake list
abbrev pub Answers : (MutBor (List ℕ) → MutBor (List ℕ) → Changed → MutBor (List ℕ) → MutBor (List ℕ) → Type 0) → Operation → Type 0
Answers post op = (t w : MutBor (List ℕ)) (r : Changed) (u v : MutBor (List ℕ)) → post t w r u v
    → seen (table_step t.now (asks op (wake_lent w.now))) ≡ sees (r.answer ∷ r.previous ∷ 0 ∷ r.woken ∷ []) (wake_lent v.now) u.now
