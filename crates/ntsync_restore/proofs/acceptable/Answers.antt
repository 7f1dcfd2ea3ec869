use Rattle.std.proofs.Common.{sym, ◌∙◌, arith}
use Rattle.model.proofs.Logic.{clash}
use Rattle.ntsync_restore.proofs.Laws.{not_in_order, not_valid, if_quiet}
use Rattle.ntsync_restore.proofs.acceptable.Goals as goal
use Rattle.ntsync_restore.proofs.acceptable.Goals.{then-in_order, else-in_order}

pub returns-then-valid : goal.returns-then-valid
returns-then-valid c = elim c.if-in_order.branch [
  | then-in_order w ↦ c.quiet.ensures ∙ if_quiet c.args.read.now (λ i. omega (arith, c.fits-read i)) w.valid.ensures w.if-in_order.true (sym w.value-is ∙ c.if-valid.true)
  | else-in_order w ↦ clash c.if-valid.true (w.value-is ∙ w.if-in_order.false)
]

pub returns-else-valid : goal.returns-else-valid
returns-else-valid c = elim c.if-in_order.branch [
  | then-in_order w ↦ rw c.if-valid.false (not_valid c.args.read.now (λ i. omega (arith, c.fits-read i)) w.valid.ensures w.if-in_order.true (sym w.value-is ∙ c.if-valid.false))
  | else-in_order w ↦ rw c.if-valid.false (not_in_order c.args.read.now w.if-in_order.false)
]
