use Rattle.std.proofs.Common.{length}
use Rattle.lines.proofs.Laws.{Reached}
use Rattle.lines.proofs.number.Given as goal

abbrev pub invariant-loop-d : goal.invariant-loop-d
invariant-loop-d l = Reached l.high l.text l.n l.rest

abbrev pub decreases-loop-d : goal.decreases-loop-d
decreases-loop-d l = length l.rest
