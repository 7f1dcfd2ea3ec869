use mathlib.Core.Path.{refl}
use Rattle.std.proofs.Common.{rules}
use Rattle.model.specs.Calls.{a_mutex}
use Rattle.kinds.proofs.Laws.{created}
use native.Mathlib.Omega.{arith}
use Rattle.kinds.proofs.mutex.Mutex.create.Goals as goal

pub returns : goal.returns
returns c = let a = c.args in let n = c.from.ensures in let m = c.from-2.ensures in let k = c.from-3.ensures in
    rw (c.ok_or.ensures.value, c.then_some.ensures) (created a_mutex a.owner a.count (omega arith) (omega arith) (let v = rw (n, m) at c.valid-ok.ensures in search (rules, v)) (rw (k, n, m) refl))
