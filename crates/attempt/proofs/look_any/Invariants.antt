use Rattle.attempt.proofs.Laws.{SignaledIn}
use Rattle.cells.specs.Attempt.{look_any}
use Rattle.cells.specs.Fold.{search_from}
use lib.ListN.{length}
use mathlib.Core.Path.{◌≡◌}
use Prim.Native.Nat.{◌-◌}
use Rattle.attempt.proofs.look_any.Given as goal

abbrev pub invariant-loop-i : goal.invariant-loop-i
invariant-loop-i l = look_any l.t l.asking l.list ≡ search_from (SignaledIn l.t l.asking l.list) l.i (length l.list - l.i)
