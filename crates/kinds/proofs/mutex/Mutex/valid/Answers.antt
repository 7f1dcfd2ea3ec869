use Rattle.kinds.proofs.Laws.{mutex_valid}
use Rattle.kinds.proofs.mutex.Mutex.valid.Goals as goal

pub returns : goal.returns
returns c = mutex_valid c.args.owner c.args.count c.args.abandoned
