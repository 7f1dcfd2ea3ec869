use Rattle.std.proofs.Common.{◌≡◌, take, take_all, length, arith}
use Rattle.std.proofs.lemmas.List.{take_more_set}
use Rattle.model.specs.Sizes.{object_places}
use Rattle.model.specs.Snapshot.{line}
use Rattle.model.specs.Reading.{number_line}
use Rattle.lines.specs.Outcome.{number_of}
use Rattle.lines.proofs.Laws.{none_read, next_bad, next_read, all_read}
use Rattle.reader.proofs.Laws.{on_err}
use Rattle.reader.proofs.read_list.Goals as goal

pub loop-handle-init : goal.loop-handle-init
loop-handle-init c = none_read (number_line "obj=" 1 object_places) _ _

pub returns-in_err-handle : goal.returns-in_err-handle
unfolding number_line number_of line
returns-in_err-handle c = on_err _ _ c.from_residual.result c.from_residual.ensures (next_bad (number_line "obj=" 1 object_places) (length c.args.list.now) _ _ c.loop-handle.handle-index _ c.loop-handle.invariant _ c.loop-handle-test.true c.in_err-handle.ensures.0, c.in_err-handle.ensures.1)

pub loop-handle-preserved : goal.loop-handle-preserved
unfolding number_line number_of line
loop-handle-preserved c = let l = c.loop-handle in
    rw (take_more_set l.list l.handle-index c.in_ok-handle.field-0 (omega arith)) (next_read (number_line "obj=" 1 object_places) (length c.args.list.now) _ _ l.handle-index _ l.invariant c.in_ok-handle.field-0 _ c.loop-handle-test.true c.in_ok-handle.ensures)

pub returns : goal.returns
returns c = let l = c.loop-handle in let whole : take l.handle-index l.list ≡ l.list = take_all l.handle-index l.list (omega arith) in rw whole at (all_read (number_line "obj=" 1 object_places) (length c.args.list.now) _ _ l.handle-index _ l.invariant c.loop-handle-test.false)
