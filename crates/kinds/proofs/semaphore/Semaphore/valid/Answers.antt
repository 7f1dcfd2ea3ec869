use Rattle.kinds.proofs.Laws.{semaphore_valid}
use Rattle.kinds.proofs.semaphore.Semaphore.valid.Goals as goal

pub returns : goal.returns
returns c = semaphore_valid c.args.count c.args.max
