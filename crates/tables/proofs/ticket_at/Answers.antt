use Rattle.cells.specs.Waits.{ticket_at}
use borrow.Author.Rules.{rules}
use Rattle.tables.proofs.ticket_at.Goals as goal

pub returns : goal.returns
unfolding ticket_at
returns c = search rules
