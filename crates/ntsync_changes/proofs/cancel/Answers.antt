use borrow.Author.Rules.{rules}
use Rattle.model.specs.Calls.{cancel, nothing_lent}
use Rattle.ntsync_guard.proofs.Laws.{means}
use Rattle.ntsync_changes.proofs.cancel.Goals as goal

pub returns-in-Ok : goal.returns-in-Ok
returns-in-Ok c = let a = c.args in rw c.from.ensures (means (cancel a.ticket) a.tables.now nothing_lent (λ i. search rules) c.in-Ok.ensures)

pub returns-in-Err : goal.returns-in-Err
returns-in-Err c = let a = c.args in rw c.from-in-Err.ensures (means (cancel a.ticket) a.tables.now nothing_lent (λ i. search rules) c.in-Err.ensures)
