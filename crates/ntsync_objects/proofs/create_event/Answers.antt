use borrow.Author.Rules.{rules}
use mathlib.Core.Path.{◌∙◌}
use Rattle.model.specs.Calls.{an_event}
use Rattle.ntsync_objects.proofs.Laws.{creates}
use Rattle.ntsync_objects.proofs.create_event.Goals as goal

pub returns : goal.returns
returns c = let a = c.args in creates an_event a.signaled a.manual a.tables.now c.create.result (λ i. search rules) c.create.ensures (c.from.ensures _ ∙ c.place.ensures)
