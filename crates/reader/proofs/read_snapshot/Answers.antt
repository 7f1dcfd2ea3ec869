use Rattle.std.proofs.Common.{◌∙◌}
use Rattle.model.specs.Sizes.{wait_places}
use Rattle.model.specs.Snapshot.{line}
use Rattle.model.specs.Reading.{◌>>=◌, number_line, read_snapshot}
use Rattle.lines.specs.Outcome.{number_of}
use Rattle.lines.proofs.Laws.{number_most}
use Rattle.reader.proofs.Laws.{on_err}
use Rattle.reader.proofs.Whole.{stopped, body_within, sum_bad, all_stored}
use Rattle.reader.proofs.read_snapshot.Goals as goal

pub returns-in_err-next : goal.returns-in_err-next
unfolding read_snapshot ◌>>=◌ number_line number_of line
returns-in_err-next c = on_err _ _ c.from_residual.result c.from_residual.ensures (stopped c.args.text.now _ (rw c.in_err-next.ensures.0))

pub returns-in_err-objects : goal.returns-in_err-objects
unfolding read_snapshot ◌>>=◌ number_line number_of line
returns-in_err-objects c = on_err _ _ c.from_residual-in_err-objects.result c.from_residual-in_err-objects.ensures (stopped c.args.text.now _ (rw (c.in_ok-next.ensures, c.in_err-objects.ensures.0)))

pub returns-in_err-handles_rise : goal.returns-in_err-handles_rise
unfolding read_snapshot ◌>>=◌ number_line number_of line
returns-in_err-handles_rise c = on_err _ _ c.from_residual-in_err-handles_rise.result c.from_residual-in_err-handles_rise.ensures (stopped c.args.text.now _ (rw (c.in_ok-next.ensures, c.in_ok-objects.ensures, c.in_err-handles_rise.ensures.0)))

pub returns-in_err-waits : goal.returns-in_err-waits
unfolding read_snapshot ◌>>=◌ number_line number_of line
returns-in_err-waits c = on_err _ _ c.from_residual-in_err-waits.result c.from_residual-in_err-waits.ensures (stopped c.args.text.now _ (rw (c.in_ok-next.ensures, c.in_ok-objects.ensures, c.in_ok-handles_rise.ensures.reads, c.in_err-waits.ensures.0)))

pub read_waits-requires : goal.read_waits-requires
unfolding number_line number_of line
read_waits-requires c = number_most "waits=" 0 wait_places c.read_objects.new.lines.rest.now c.in_ok-waits.ensures

pub returns-in_err-tickets_rise : goal.returns-in_err-tickets_rise
unfolding read_snapshot ◌>>=◌ number_line number_of line
returns-in_err-tickets_rise c = on_err _ _ c.from_residual-in_err-tickets_rise.result c.from_residual-in_err-tickets_rise.ensures (stopped c.args.text.now _ (rw (c.in_ok-next.ensures, c.in_ok-objects.ensures, c.in_ok-handles_rise.ensures.reads, c.in_ok-waits.ensures, c.in_err-tickets_rise.ensures.0)))

pub slice_bounds-body-count : goal.slice_bounds-body-count
unfolding number_line number_of line
slice_bounds-body-count c = body_within c.args.text.now c.args.t.now c.in_ok-next.ensures c.in_ok-objects.ensures _ _ (rw c.put_next.ensures at c.in_ok-handles_rise.ensures) c.in_ok-waits.ensures _ _ c.in_ok-tickets_rise.ensures

pub returns-in_err-sum : goal.returns-in_err-sum
unfolding number_line number_of line
returns-in_err-sum c = on_err _ _ c.from_residual-in_err-sum.result c.from_residual-in_err-sum.ensures (stopped c.args.text.now _ (sum_bad c.args.text.now c.args.t.now c.in_ok-next.ensures c.in_ok-objects.ensures _ _ (rw c.put_next.ensures at c.in_ok-handles_rise.ensures) c.in_ok-waits.ensures _ _ c.in_ok-tickets_rise.ensures _ c.in_err-sum.ensures.0))

pub returns : goal.returns
unfolding number_line number_of line
returns c = all_stored c.args.text.now c.args.t.now c.in_ok-next.ensures c.in_ok-objects.ensures _ _ (rw c.put_next.ensures at c.in_ok-handles_rise.ensures) c.in_ok-waits.ensures _ _ c.in_ok-tickets_rise.ensures c.in_ok-sum.ensures (c.from.ensures ∙ c.byte_sum.ensures) c.is_empty.ensures
