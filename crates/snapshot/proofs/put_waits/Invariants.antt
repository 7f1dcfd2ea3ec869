use Rattle.std.proofs.Common.{◌-◌}
use Rattle.model.specs.Sizes.{wait_places}
use Rattle.cells.specs.Snapshot.{waits_text_from}
use Rattle.decimal.proofs.Laws.{Due}
use Rattle.snapshot.proofs.put_waits.Given as goal

abbrev pub invariant-loop : goal.invariant-loop
invariant-loop l = Due l.initial.w (waits_text_from wait_places l.t 0) l.w (waits_text_from (wait_places - l.counter) l.t l.last)
