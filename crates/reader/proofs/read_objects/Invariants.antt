use Rattle.reader.proofs.Laws.{Storing}
use Rattle.reader.proofs.read_objects.Given as goal

abbrev pub invariant-loop : goal.invariant-loop
invariant-loop l = Storing l.n l.initial.lines.rest.now l.initial.t l.t l.counter l.lines.rest.now l.rising l.last
