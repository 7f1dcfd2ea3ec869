use borrow.Author.Rules.{rules}
use mathlib.Core.Path.{refl}
use Rattle.model.specs.Calls.{nothing_lent}
use Rattle.cells.specs.Calls.{close_cells}
use Rattle.calls.specs.Values.{left_by, done}
use Rattle.ntsync_changes.proofs.try_close.Goals as goal

pub returns : goal.returns
returns c = c.guarded.ensures (left_by done) (λ t. close_cells c.args.handle t nothing_lent) (λ e t. refl) (λ t r u q. search rules)
