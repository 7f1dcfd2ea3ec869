use Rattle.reader.proofs.Laws.{Queueing}
use Rattle.reader.proofs.read_waits.Given as goal

abbrev pub invariant-loop-p : goal.invariant-loop-p
invariant-loop-p l = Queueing l.n l.initial.lines.rest.now l.initial.t l.t l.p l.lines.rest.now l.rising l.last
