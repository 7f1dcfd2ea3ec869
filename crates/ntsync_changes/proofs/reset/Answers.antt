use borrow.Author.Rules.{rules}
use mathlib.Core.Path.{◌∙◌}
use Rattle.model.specs.Calls.{reset_event, nothing_lent}
use Rattle.ntsync_guard.proofs.Laws.{means}
use Rattle.ntsync_changes.proofs.Laws.{number_told}
use Rattle.ntsync_changes.proofs.reset.Goals as goal

pub returns : goal.returns
returns c = let a = c.args in rw c.from.ensures
    (means (reset_event a.handle) a.tables.now nothing_lent (λ i. search rules) c.try_reset-r.ensures ∙ number_told c.try_reset-r.new.tables c.try_reset-r.result c.map.result (λ n w p. search rules) c.map.ensures.cases)
