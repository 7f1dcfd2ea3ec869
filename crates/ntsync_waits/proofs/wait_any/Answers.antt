use mathlib.Core.Path.{◌∙◌}
use Rattle.model.specs.Waits.{any}
use Rattle.model.specs.Calls.{wait, nothing_lent}
use Rattle.ntsync_guard.proofs.Laws.{means}
use borrow.Author.Rules.{rules}
use Rattle.ntsync_waits.proofs.wait_any.Goals as goal

pub returns : goal.returns
returns c = let a = c.args in means (wait any a.list.now a.owner a.flags a.pad a.alert a.timeout a.time) a.tables.now nothing_lent (search rules) (c.from.ensures _ ∙ rw c.terms.ensures at c.wait.ensures)
