use borrow.Author.Rules.{rules}
use mathlib.Core.Path.{◌∙◌}
use Rattle.model.specs.Calls.{a_semaphore}
use Rattle.ntsync_objects.proofs.Laws.{creates}
use Rattle.ntsync_objects.proofs.create_sem.Goals as goal

pub returns : goal.returns
returns c = let a = c.args in creates a_semaphore a.count a.max a.tables.now c.create.result (λ i. search rules) c.create.ensures (c.from.ensures _ ∙ c.place.ensures)
