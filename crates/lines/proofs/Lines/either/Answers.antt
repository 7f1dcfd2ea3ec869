use Rattle.std.proofs.Common.{sym}
use Rattle.lines.specs.Outcome.{either_of}
use Rattle.lines.proofs.Lines.either.Goals as goal

pub returns-then-skip : goal.returns-then-skip
unfolding either_of
returns-then-skip c = rw c.if-skip.ensures

pub returns-then-skip-2 : goal.returns-then-skip-2
unfolding either_of
returns-then-skip-2 c = let n = c.if-skip.ensures in let s = rw n.1 at c.if-skip-2.ensures in rw (n.0, s)

pub returns-else-skip-2 : goal.returns-else-skip-2
unfolding either_of
returns-else-skip-2 c = let n = c.if-skip.ensures in let s = rw n.1 at c.if-skip-2.ensures in (rw (n.0, s.0, c.not_due.ensures, s.1), sym c.not_due.ensures)
