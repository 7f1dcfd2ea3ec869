use Rattle.std.proofs.Common.{◌+◌}
use Rattle.cells.specs.Objects.{fields_at}
use Rattle.cells.specs.Snapshot.{fields_text}
use Rattle.decimal.specs.Writing.{Appended}
use Rattle.snapshot.proofs.Laws.{text_below}
use Rattle.snapshot.proofs.put_objects.Given as goal

abbrev pub invariant-loop-p : goal.invariant-loop-p
invariant-loop-p l = Appended l.initial.w l.w (text_below (λ i. fields_text (i + 1) (fields_at l.t i)) l.p)
