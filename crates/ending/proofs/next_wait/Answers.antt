use Rattle.cells.specs.Waits.{next_wait}
use borrow.Author.Rules.{rules}
use Rattle.ending.proofs.next_wait.Goals as goal

pub returns : goal.returns
unfolding next_wait
returns c = search rules
