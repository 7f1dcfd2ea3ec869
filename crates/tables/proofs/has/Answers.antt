use mathlib.Core.Path.{sym, ◌∙◌}
use Rattle.refine.proofs.Fold.{has_is}
use Rattle.tables.proofs.Laws.{any_member}
use Rattle.tables.proofs.has.Goals as goal

pub returns : goal.returns
returns c = c.contains.ensures.value ∙ any_member c.args.list.now c.args.h ∙ sym (has_is c.args.list.now c.args.h)
