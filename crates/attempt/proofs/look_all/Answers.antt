use Rattle.attempt.proofs.Laws.{all_start, all_stop, all_on, all_end}
use mathlib.Core.Bool.{not}
use lib.ListN.{length}
use mathlib.Core.Path.{◌≡◌, ap}
use native.Mathlib.Omega.{arith}
use Rattle.attempt.proofs.look_all.Goals as goal

pub loop-h-init : goal.loop-h-init
loop-h-init c = let a = c.args in all_start a.t.now a.asking a.list.now

pub returns-then-not-here : goal.returns-then-not-here
returns-then-not-here c = let a = c.args in all_stop a.t.now a.asking a.list.now c.loop-h.h-index c.loop-h-test.true c.signaled-here.ensures (ap not c.if-not-here.true)

pub loop-h-preserved : goal.loop-h-preserved
loop-h-preserved c = let a = c.args in all_on a.t.now a.asking a.list.now c.loop-h.h-index c.signaled-here.ensures (ap not c.if-not-here.false) c.loop-h.invariant

pub returns : goal.returns
returns c = let a = c.args in let e : c.loop-h.h-index ≡ length a.list.now = omega arith in all_end a.t.now a.asking a.list.now c.loop-h.h-index e c.loop-h.invariant
