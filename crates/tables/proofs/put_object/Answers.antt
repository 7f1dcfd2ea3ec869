use Rattle.cells.specs.Objects.{put_fields}
use borrow.Author.Rules.{rules}
use Rattle.tables.proofs.put_object.Goals as goal

pub returns : goal.returns
unfolding put_fields
returns c = search rules
