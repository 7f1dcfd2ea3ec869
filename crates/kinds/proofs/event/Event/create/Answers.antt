use mathlib.Core.Path.{refl}
use Rattle.model.specs.Calls.{an_event}
use Rattle.kinds.proofs.Laws.{created}
use native.Mathlib.Omega.{arith}
use Rattle.kinds.proofs.event.Event.create.Goals as goal

pub returns : goal.returns
returns c = let a = c.args in let n = c.from.ensures in let m = c.from-2.ensures in let k = c.from-3.ensures in
    rw (c.ok_or.ensures.value, c.then_some.ensures) (created an_event a.signaled a.manual {valid = c.valid-ok.result} (omega arith) (omega arith) (rw (n, m) at c.valid-ok.ensures) (rw (k, n, m) refl))
