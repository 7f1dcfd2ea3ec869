use Rattle.attempt.proofs.Laws.{acquired_start, acquired_more, abandoned_start, abandoned_more}
use lib.ListN.{length}
use mathlib.Core.Path.{◌≡◌}
use native.Mathlib.Omega.{arith}
use Rattle.attempt.proofs.acquire_list.Goals as goal

pub loop-h-init : goal.loop-h-init
loop-h-init c = let a = c.args in (c.told-t, acquired_start a.t.now a.asking a.list.now, abandoned_start a.t.now a.asking a.list.now)

pub loop-h-preserved : goal.loop-h-preserved
loop-h-preserved c = let a = c.args in let i = c.loop-h.h-index in (c.acquire-here.array_long, acquired_more a.t.now a.asking a.list.now i c.loop-h.invariant.1 c.acquire-here.ensures.0, abandoned_more a.t.now a.asking a.list.now i c.loop-h.invariant.1 c.loop-h.invariant.2 c.acquire-here.ensures.1)

pub returns : goal.returns
returns c = let a = c.args in let e : c.loop-h.h-index ≡ length a.list.now = omega arith in (rw e at c.loop-h.invariant.1, rw e at c.loop-h.invariant.2)
