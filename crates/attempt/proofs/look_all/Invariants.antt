use Rattle.attempt.proofs.Laws.{SignaledIn}
use Rattle.cells.specs.Fold.{all_below}
use mathlib.Core.Bool.{true}
use mathlib.Core.Path.{◌≡◌}
use Rattle.attempt.proofs.look_all.Given as goal

abbrev pub invariant-loop-h : goal.invariant-loop-h
invariant-loop-h l = all_below (SignaledIn l.t l.asking l.list) l.h-index ≡ true
