use Rattle.std.proofs.Common.{◌∙◌}
use Rattle.model.specs.Sizes.{object_places}
use Rattle.model.specs.Snapshot.{line}
use Rattle.model.specs.Reading.{give, number_line, word_line, read_values, read_object}
use Rattle.lines.specs.Outcome.{number_of}
use Rattle.lines.proofs.Laws.{seq_on, seq_stop, both_on, both_stop}
use Rattle.reader.specs.Values.{kind_words}
use Rattle.reader.proofs.Laws.{on_err_and}
use Rattle.reader.proofs.read_object.Goals as goal

pub returns-in_err-handle : goal.returns-in_err-handle
unfolding read_object number_line number_of line
returns-in_err-handle c = on_err_and _ _ _ c.from_residual.result c.from_residual.ensures (seq_stop (number_line "handle=" 1 object_places) _ c.args.lines.now.rest.now c.in_err-handle.ensures.0, c.in_err-handle.ensures.1)

pub returns-in_err-object : goal.returns-in_err-object
unfolding read_object number_line number_of line
returns-in_err-object c = on_err_and _ _ _ c.from_residual-in_err-object.result c.from_residual-in_err-object.ensures (seq_on (number_line "handle=" 1 object_places) _ c.args.lines.now.rest.now c.in_ok-handle.ensures ∙ both_stop (word_line kind_words) read_values _ c.number.new.self.rest.now c.in_err-object.ensures.0.0, c.in_err-object.ensures.0.1)

pub returns : goal.returns
unfolding read_object number_line number_of line give
returns c = (seq_on (number_line "handle=" 1 object_places) _ c.args.lines.now.rest.now c.in_ok-handle.ensures ∙ both_on (word_line kind_words) read_values _ c.number.new.self.rest.now c.in_ok-object.ensures.0, c.in_ok-object.ensures.1)
