use borrow.Author.Rules.{rules}
use mathlib.Core.Path.{refl}
use Rattle.model.specs.Calls.{nothing_lent}
use Rattle.cells.specs.Calls.{cancel_cells}
use Rattle.calls.specs.Values.{left_by, cancelled}
use Rattle.ntsync_changes.proofs.try_cancel.Goals as goal

pub returns : goal.returns
returns c = c.guarded.ensures (left_by cancelled) (λ t. cancel_cells c.args.ticket t nothing_lent) (λ e t. refl) (λ t r u q. search rules)
