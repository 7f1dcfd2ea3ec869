use mathlib.Core.Path.{◌∙◌}
use Rattle.model.specs.Calls.{snapshot, buffer_lent}
use Rattle.ntsync_guard.proofs.Laws.{means}
use native.Mathlib.Omega.{arith}
use Rattle.ntsync_snapshot.proofs.snapshot.Goals as goal

pub returns : goal.returns
returns c = let a = c.args in means snapshot a.tables.now (buffer_lent a.buffer.now) (λ i. omega (arith, c.type_inv.tables i)) (c.from.ensures _ _ ∙ c.write.ensures)
