use mathlib.Core.Path.{◌∙◌}
use Rattle.kinds.specs.Values.{cells_of}
use Rattle.validity.proofs.Laws.{event_is}
use Rattle.validity.proofs.is_event.Goals as goal

pub returns : goal.returns
returns c = c.is.ensures ∙ event_is c.args.t.now c.args.h (cells_of c.named.result) c.named.ensures
