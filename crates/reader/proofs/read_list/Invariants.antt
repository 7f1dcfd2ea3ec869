use Rattle.std.proofs.Common.{length, take}
use Rattle.model.specs.Sizes.{object_places}
use Rattle.model.specs.Reading.{number_line}
use Rattle.lines.proofs.Laws.{Begun}
use Rattle.reader.proofs.read_list.Given as goal

abbrev pub invariant-loop-handle : goal.invariant-loop-handle
invariant-loop-handle l = Begun (number_line "obj=" 1 object_places) (length l.initial.list) l.initial.lines.rest.now (take l.handle-index l.list) l.handle-index l.lines.rest.now
