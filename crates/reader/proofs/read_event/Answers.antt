use Rattle.model.specs.Snapshot.{line}
use Rattle.model.specs.Reading.{◌>>=◌, give, number_line, read_values}
use Rattle.lines.specs.Outcome.{number_of}
use Rattle.lines.proofs.Laws.{flag_cell}
use Rattle.reader.proofs.Laws.{on_err_and}
use Rattle.reader.proofs.read_event.Goals as goal

pub returns-in_err-signaled : goal.returns-in_err-signaled
unfolding read_values ◌>>=◌ number_line number_of line
returns-in_err-signaled c = on_err_and _ _ _ c.from_residual.result c.from_residual.ensures (rw c.in_err-signaled.ensures.0, c.in_err-signaled.ensures.1)

pub returns-in_err-manual : goal.returns-in_err-manual
unfolding read_values ◌>>=◌ give number_line number_of line
returns-in_err-manual c = on_err_and _ _ _ c.from_residual-in_err-manual.result c.from_residual-in_err-manual.ensures (rw (c.in_ok-signaled.ensures, c.in_err-manual.ensures.0), c.in_err-manual.ensures.1)

pub returns : goal.returns
unfolding read_values ◌>>=◌ give number_line number_of line
returns c = rw c.from.ensures (let s = flag_cell "signaled=" c.args.lines.now.rest.now c.in_ok-signaled.ensures in let m = flag_cell "manual=" c.number.new.self.rest.now c.in_ok-manual.ensures in (rw (c.in_ok-signaled.ensures, c.in_ok-manual.ensures), rw (s, m)))
