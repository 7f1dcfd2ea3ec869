use Rattle.model.specs.Sizes.{max_listed}
use lib.ListN.{length, take}
use mathlib.Core.Path.{◌≡◌}
use Rattle.waits.proofs.widen.Given as goal

abbrev pub invariant-loop-i : goal.invariant-loop-i
invariant-loop-i l = (length l.wide ≡ max_listed) × (take l.i l.wide ≡ take l.i l.list)
