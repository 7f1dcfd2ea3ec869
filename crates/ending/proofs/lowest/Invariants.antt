use Rattle.std.specs.Prelude.{ℕ, ◌<◌, Bool, IfSome}
use Rattle.model.specs.Sizes.{wait_places}
use Rattle.cells.specs.Fold.{fold_below}
use Rattle.cells.specs.Waits.{better}
use Rattle.tables.specs.Found.{Found}
use Rattle.ending.specs.Lowest.{Tells}
use Rattle.ending.proofs.lowest.Given as goal

abbrev pub invariant-loop-i : goal.invariant-loop-i
invariant-loop-i g l = IfSome l.best (λ b. b < wait_places)
    × ((ok : ℕ → Bool) → Tells (goal.F-post g l.passes) ok → Found l.best (fold_below (better l.t ok) wait_places l.i) wait_places)
