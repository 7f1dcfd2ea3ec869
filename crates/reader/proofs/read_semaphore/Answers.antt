use Rattle.std.proofs.Common.{refl, ◌∙◌}
use Rattle.model.specs.Snapshot.{line}
use Rattle.model.specs.Reading.{give, number_line, number32_line, read_values}
use Rattle.lines.specs.Outcome.{number_of}
use Rattle.lines.proofs.Laws.{seq_on, seq_stop}
use Rattle.reader.proofs.Laws.{on_err_and}
use Rattle.reader.proofs.read_semaphore.Goals as goal

pub returns-in_err-count : goal.returns-in_err-count
unfolding read_values number_line number_of line
returns-in_err-count c = on_err_and _ _ _ c.from_residual.result c.from_residual.ensures (seq_stop (number32_line "count=") _ c.args.lines.now.rest.now c.in_err-count.ensures.0, c.in_err-count.ensures.1)

pub returns-in_err-max : goal.returns-in_err-max
unfolding read_values number_line number_of line
returns-in_err-max c = on_err_and _ _ _ c.from_residual-in_err-max.result c.from_residual-in_err-max.ensures (seq_on (number32_line "count=") _ c.args.lines.now.rest.now c.in_ok-count.ensures ∙ seq_stop (number32_line "max=") _ c.number.new.self.rest.now c.in_err-max.ensures.0, c.in_err-max.ensures.1)

pub returns : goal.returns
unfolding read_values number_line number_of line give
returns c = rw c.from.ensures ((seq_on (number32_line "count=") _ c.args.lines.now.rest.now c.in_ok-count.ensures ∙ seq_on (number32_line "max=") _ c.number.new.self.rest.now c.in_ok-max.ensures, refl))
