use Rattle.std.proofs.Common.{◌≡◌, ◌%◌, take}
use Rattle.model.specs.Sizes.{word32}
use Rattle.model.specs.Snapshot.{byte_sum}
use Rattle.byte_sum.proofs.byte_sum.Given as goal

abbrev pub invariant-loop-b : goal.invariant-loop-b
invariant-loop-b l = l.sum ≡ byte_sum (take l.b-index l.bytes) % word32
