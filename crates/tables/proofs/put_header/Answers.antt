use Rattle.cells.specs.Calls.{put_header}
use borrow.Author.Rules.{rules}
use Rattle.tables.proofs.put_header.Goals as goal

pub returns : goal.returns
unfolding put_header
returns c = search rules
