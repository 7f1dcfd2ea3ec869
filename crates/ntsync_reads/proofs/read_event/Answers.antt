use mathlib.Core.Path.{◌∙◌}
use Rattle.model.specs.Calls.{read, an_event, nothing_lent}
use Rattle.ntsync_guard.proofs.Laws.{means}
use native.Mathlib.Omega.{arith}
use Rattle.ntsync_reads.proofs.read_event.Goals as goal

pub returns : goal.returns
returns c = let a = c.args in means (read an_event a.handle) a.tables.now nothing_lent (λ i. omega (arith, c.type_inv.tables i)) (c.from.ensures _ ∙ c.event.ensures)
