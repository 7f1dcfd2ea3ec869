use borrow.Author.Rules.{rules}
use mathlib.Core.Path.{refl}
use Rattle.model.specs.Calls.{nothing_lent}
use Rattle.cells.specs.Calls.{reset_cells}
use Rattle.calls.specs.Values.{left_by, number}
use Rattle.ntsync_changes.proofs.try_reset.Goals as goal

pub returns : goal.returns
returns c = c.guarded.ensures (left_by number) (λ t. reset_cells c.args.handle t nothing_lent) (λ e t. refl) (λ t r u q. search rules)
