use Rattle.std.proofs.Common.{◌≡◌, ℕ, length, take, sym, ◌∙◌, arith, length-take-le}
use Rattle.model.specs.Waits.{any, all}
use Rattle.model.specs.Sizes.{max_listed}
use Rattle.model.specs.Snapshot.{line}
use Rattle.model.specs.Reading.{◌>>=◌, give, number_line, read_wait}
use Rattle.lines.specs.Outcome.{number_of}
use Rattle.lines.proofs.Laws.{either_bad, number_most}
use Rattle.reader.proofs.Laws.{on_err_and, taken, mode_read, mode_is, clock_read}
use Rattle.reader.proofs.read_wait.Goals as goal

pub returns-in_err-ticket : goal.returns-in_err-ticket
unfolding read_wait ◌>>=◌ give number_line number_of line
returns-in_err-ticket c = on_err_and _ _ _ c.from_residual.result c.from_residual.ensures (rw c.in_err-ticket.ensures.0, c.in_err-ticket.ensures.1)

pub returns-in_err-either : goal.returns-in_err-either
unfolding read_wait ◌>>=◌ give number_line number_of line
returns-in_err-either c = on_err_and _ _ _ c.from_residual-in_err-either.result c.from_residual-in_err-either.ensures (rw (c.in_ok-ticket.ensures, either_bad "mode=any\n" "mode=all\n" any all c.number.new.self.rest.now c.in_err-either.ensures.0), c.in_err-either.ensures.1)

pub returns-in_err-owner : goal.returns-in_err-owner
unfolding read_wait ◌>>=◌ give number_line number_of line
returns-in_err-owner c = on_err_and _ _ _ c.from_residual-in_err-owner.result c.from_residual-in_err-owner.ensures (rw (c.in_ok-ticket.ensures, mode_read c.in_ok-either.field-0 c.number.new.self.rest.now c.from-mode.ensures c.in_ok-either.ensures, c.in_err-owner.ensures.0), c.in_err-owner.ensures.1)

pub returns-in_err-either-2 : goal.returns-in_err-either-2
unfolding read_wait ◌>>=◌ give number_line number_of line
returns-in_err-either-2 c = on_err_and _ _ _ c.from_residual-in_err-either-2.result c.from_residual-in_err-either-2.ensures (rw (c.in_ok-ticket.ensures, mode_read c.in_ok-either.field-0 c.number.new.self.rest.now c.from-mode.ensures c.in_ok-either.ensures, c.in_ok-owner.ensures, either_bad {A = ℕ} "clock=mono\n" "clock=real\n" 0 1 c.number-2.new.self.rest.now c.in_err-either-2.ensures.0), c.in_err-either-2.ensures.1)

pub returns-in_err-timeout : goal.returns-in_err-timeout
unfolding read_wait ◌>>=◌ give number_line number_of line
returns-in_err-timeout c = on_err_and _ _ _ c.from_residual-in_err-timeout.result c.from_residual-in_err-timeout.ensures (rw (c.in_ok-ticket.ensures, mode_read c.in_ok-either.field-0 c.number.new.self.rest.now c.from-mode.ensures c.in_ok-either.ensures, c.in_ok-owner.ensures, clock_read c.in_ok-either-2.field-0 c.number-2.new.self.rest.now c.from-clock.ensures c.in_ok-either-2.ensures, c.in_err-timeout.ensures.0), c.in_err-timeout.ensures.1)

pub returns-in_err-alert : goal.returns-in_err-alert
unfolding read_wait ◌>>=◌ give number_line number_of line
returns-in_err-alert c = on_err_and _ _ _ c.from_residual-in_err-alert.result c.from_residual-in_err-alert.ensures (rw (c.in_ok-ticket.ensures, mode_read c.in_ok-either.field-0 c.number.new.self.rest.now c.from-mode.ensures c.in_ok-either.ensures, c.in_ok-owner.ensures, clock_read c.in_ok-either-2.field-0 c.number-2.new.self.rest.now c.from-clock.ensures c.in_ok-either-2.ensures, c.in_ok-timeout.ensures, c.in_err-alert.ensures.0), c.in_err-alert.ensures.1)

pub returns-in_err-listed : goal.returns-in_err-listed
unfolding read_wait ◌>>=◌ give number_line number_of line
returns-in_err-listed c = on_err_and _ _ _ c.from_residual-in_err-listed.result c.from_residual-in_err-listed.ensures (rw (c.in_ok-ticket.ensures, mode_read c.in_ok-either.field-0 c.number.new.self.rest.now c.from-mode.ensures c.in_ok-either.ensures, c.in_ok-owner.ensures, clock_read c.in_ok-either-2.field-0 c.number-2.new.self.rest.now c.from-clock.ensures c.in_ok-either-2.ensures, c.in_ok-timeout.ensures, c.in_ok-alert.ensures, c.in_err-listed.ensures.0), c.in_err-listed.ensures.1)

pub slice_bounds-named-end : goal.slice_bounds-named-end
unfolding number_line number_of line
slice_bounds-named-end c = number_most "n=" 0 max_listed c.number-4.new.self.rest.now c.in_ok-listed.ensures

pub returns-in_err-read_list : goal.returns-in_err-read_list
unfolding read_wait ◌>>=◌ give number_line number_of line
returns-in_err-read_list c = let long : length (take c.in_ok-listed.listed c.args.list.now) ≡ c.in_ok-listed.listed = length-take-le c.in_ok-listed.listed c.args.list.now (omega (arith, c.told-list, number_most "n=" 0 max_listed c.number-4.new.self.rest.now c.in_ok-listed.ensures)) in on_err_and _ _ _ c.from_residual-in_err-read_list.result c.from_residual-in_err-read_list.ensures (rw (c.in_ok-ticket.ensures, mode_read c.in_ok-either.field-0 c.number.new.self.rest.now c.from-mode.ensures c.in_ok-either.ensures, c.in_ok-owner.ensures, clock_read c.in_ok-either-2.field-0 c.number-2.new.self.rest.now c.from-clock.ensures c.in_ok-either-2.ensures, c.in_ok-timeout.ensures, c.in_ok-alert.ensures, c.in_ok-listed.ensures, (rw long at c.in_err-read_list.ensures.0)), c.in_err-read_list.ensures.1)

pub returns : goal.returns
unfolding read_wait ◌>>=◌ give number_line number_of line
returns c = let long : length (take c.in_ok-listed.listed c.args.list.now) ≡ c.in_ok-listed.listed = length-take-le c.in_ok-listed.listed c.args.list.now (omega (arith, c.told-list, number_most "n=" 0 max_listed c.number-4.new.self.rest.now c.in_ok-listed.ensures)) in (rw (c.in_ok-ticket.ensures, mode_read c.in_ok-either.field-0 c.number.new.self.rest.now c.from-mode.ensures c.in_ok-either.ensures, c.in_ok-owner.ensures, clock_read c.in_ok-either-2.field-0 c.number-2.new.self.rest.now c.from-clock.ensures c.in_ok-either-2.ensures, c.in_ok-timeout.ensures, c.in_ok-alert.ensures, c.in_ok-listed.ensures, (rw long at c.in_ok-read_list.ensures)) (rw (taken c.in_ok-listed.listed c.read_list.new.list _ (sym (c.read_list.auto.list ∙ long)))), (mode_is c.in_ok-either.field-0 c.from-mode.ensures, number_most "n=" 0 max_listed c.number-4.new.self.rest.now c.in_ok-listed.ensures))
