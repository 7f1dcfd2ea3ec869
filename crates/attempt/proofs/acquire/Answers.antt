use Rattle.kinds.specs.Values.{cells_of}
use Rattle.attempt.proofs.Laws.{acquire_is, abandoned_is}
use Rattle.attempt.proofs.acquire.Goals as goal

pub returns : goal.returns
returns c = let a = c.args in (acquire_is a.t.now a.h (cells_of c.named-o.result) c.named-o.ensures a.asking (cells_of c.acquire-a.result.next) c.acquire-a.ensures.next c.store.ensures, abandoned_is a.t.now a.h (cells_of c.named-o.result) c.named-o.ensures c.acquire-a.ensures.dead)
