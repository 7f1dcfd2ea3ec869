use borrow.Author.Rules.{rules}
use Rattle.model.specs.Calls.{close, nothing_lent}
use Rattle.ntsync_guard.proofs.Laws.{means}
use Rattle.ntsync_changes.proofs.close.Goals as goal

pub returns-in-Ok : goal.returns-in-Ok
returns-in-Ok c = let a = c.args in means (close a.handle) a.tables.now nothing_lent (λ i. search rules) c.in-Ok.ensures

pub returns-in-Err : goal.returns-in-Err
returns-in-Err c = let a = c.args in rw c.from.ensures (means (close a.handle) a.tables.now nothing_lent (λ i. search rules) c.in-Err.ensures)
