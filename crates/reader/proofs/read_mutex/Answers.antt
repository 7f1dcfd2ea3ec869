use Rattle.model.specs.Snapshot.{line}
use Rattle.model.specs.Reading.{◌>>=◌, give, number_line, read_values}
use Rattle.lines.specs.Outcome.{number_of}
use Rattle.lines.proofs.Laws.{flag_cell}
use Rattle.reader.proofs.Laws.{on_err_and}
use Rattle.reader.proofs.read_mutex.Goals as goal

pub returns-in_err-owner : goal.returns-in_err-owner
unfolding read_values ◌>>=◌ number_line number_of line
returns-in_err-owner c = on_err_and _ _ _ c.from_residual.result c.from_residual.ensures (rw c.in_err-owner.ensures.0, c.in_err-owner.ensures.1)

pub returns-in_err-count : goal.returns-in_err-count
unfolding read_values ◌>>=◌ number_line number_of line
returns-in_err-count c = on_err_and _ _ _ c.from_residual-in_err-count.result c.from_residual-in_err-count.ensures (rw (c.in_ok-owner.ensures, c.in_err-count.ensures.0), c.in_err-count.ensures.1)

pub returns-in_err-abandoned : goal.returns-in_err-abandoned
unfolding read_values ◌>>=◌ give number_line number_of line
returns-in_err-abandoned c = on_err_and _ _ _ c.from_residual-in_err-abandoned.result c.from_residual-in_err-abandoned.ensures (rw (c.in_ok-owner.ensures, c.in_ok-count.ensures, c.in_err-abandoned.ensures.0), c.in_err-abandoned.ensures.1)

pub returns : goal.returns
unfolding read_values ◌>>=◌ give number_line number_of line
returns c = rw c.from.ensures (let a = flag_cell "abandoned=" c.number-2.new.self.rest.now c.in_ok-abandoned.ensures in (rw (c.in_ok-owner.ensures, c.in_ok-count.ensures, c.in_ok-abandoned.ensures), rw a))
