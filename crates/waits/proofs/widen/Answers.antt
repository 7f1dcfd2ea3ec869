use Rattle.tables.proofs.Laws.{copied}
use lib.Seq.{take-length}
use lib.ListN.{length, length-set}
use mathlib.Core.Path.{◌≡◌, refl, ◌∙◌}
use native.Mathlib.Omega.{arith}
use Rattle.waits.proofs.widen.Goals as goal

pub loop-i-init : goal.loop-i-init
loop-i-init c = (refl, refl)

pub loop-i-preserved : goal.loop-i-preserved
loop-i-preserved c = (simp length-set (omega arith), rw c.from.ensures (copied c.loop-i.wide c.args.list.now c.loop-i.i c.loop-i.invariant.1 (omega arith) c.loop-i-test.true))

pub returns : goal.returns
returns c = let l = c.args.list.now in let e : c.loop-i.i ≡ length l = omega arith in rw e at c.loop-i.invariant.1 ∙ take-length l
