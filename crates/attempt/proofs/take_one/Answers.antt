use Rattle.attempt.proofs.Laws.{taken}
use Rattle.attempt.proofs.take_one.Goals as goal

pub returns : goal.returns
returns c = let a = c.args in taken a.t.now a.asking a.h a.i c.acquire-dead.ensures.0 c.acquire-dead.ensures.1
