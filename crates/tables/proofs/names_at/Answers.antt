use mathlib.Core.Path.{sym}
use Rattle.cells.specs.Waits.{names_at}
use Rattle.tables.proofs.names_at.Goals as goal

pub returns : goal.returns
unfolding names_at
returns c = rw (sym c.names_of-names.ensures) c.has.ensures
