use Rattle.attempt.proofs.Laws.{any_start, any_found, any_on, any_end}
use lib.ListN.{length}
use mathlib.Core.Path.{◌≡◌, ◌∙◌}
use native.Mathlib.Omega.{arith}
use Rattle.attempt.proofs.look_any.Goals as goal

pub loop-i-init : goal.loop-i-init
loop-i-init c = let a = c.args in any_start a.t.now a.asking a.list.now

pub returns-then-here : goal.returns-then-here
returns-then-here c = let a = c.args in (any_found a.t.now a.asking a.list.now c.loop-i.i c.loop-i-test.true c.signaled-here.ensures c.if-here.true c.loop-i.invariant, c.loop-i-test.true)

pub loop-i-preserved : goal.loop-i-preserved
loop-i-preserved c = let a = c.args in any_on a.t.now a.asking a.list.now c.loop-i.i c.loop-i-test.true c.signaled-here.ensures c.if-here.false c.loop-i.invariant

pub returns : goal.returns
returns c = let a = c.args in let e : length a.list.now ≡ c.loop-i.i = omega arith in e ∙ any_end a.t.now a.asking a.list.now c.loop-i.i c.loop-i-test.false c.loop-i.invariant
