use Rattle.std.proofs.Common.{ℕ, ◌%◌, List, refl, ap, ◌∙◌, arith, take_all}
use Rattle.model.specs.Sizes.{word32}
use Rattle.model.specs.Snapshot.{byte_sum}
use Rattle.byte_sum.proofs.Laws.{sum_more}
use Rattle.byte_sum.proofs.byte_sum.Goals as goal

pub loop-b-init : goal.loop-b-init
unfolding byte_sum
loop-b-init c = refl

pub loop-b-preserved : goal.loop-b-preserved
loop-b-preserved c = sum_more c.args.bytes.now c.loop-b.b-index (omega arith) c.loop-b.invariant (rw c.from-sum.ensures)

pub returns : goal.returns
returns c = let b = c.args.bytes.now in c.loop-b.invariant ∙ ap (λ (x : List ℕ). byte_sum x % word32) (take_all c.loop-b.b-index b (omega arith))
