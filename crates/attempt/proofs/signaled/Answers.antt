use mathlib.Core.Path.{◌∙◌}
use Rattle.kinds.specs.Values.{cells_of}
use Rattle.attempt.proofs.Laws.{signaled_is}
use Rattle.attempt.proofs.signaled.Goals as goal

pub returns : goal.returns
returns c = let a = c.args in c.signaled.ensures ∙ signaled_is a.t.now a.h (cells_of c.named-o.result) c.named-o.ensures a.asking
