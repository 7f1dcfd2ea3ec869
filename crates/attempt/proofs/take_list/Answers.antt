use Rattle.attempt.proofs.Laws.{taken_all}
use Rattle.attempt.proofs.take_list.Goals as goal

pub returns : goal.returns
returns c = let a = c.args in taken_all a.t.now a.asking a.list.now c.acquire_list-dead.ensures.0 c.acquire_list-dead.ensures.1
