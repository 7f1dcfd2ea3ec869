use native.Mathlib.Omega.{arith}
use Rattle.std.proofs.Common.{refl}
use Rattle.cells.specs.Waits.{ticket_at}
use Rattle.decimal.proofs.Laws.{due_all, due_first, due_then, appended_none}
use Rattle.snapshot.proofs.Laws.{rest_end, rest_none, rest_more}
use Rattle.snapshot.proofs.put_waits.Goals as goal

pub loop-init : goal.loop-init
loop-init c = due_all c.requires

pub returns-in_default : goal.returns-in_default
returns-in_default c = let a = c.args in let s = c.loop in s.invariant.done (rw (rest_none a.t.now s.counter s.last c.loop-test.true c.in_default.ensures (omega arith)) (appended_none s.w))

pub put_wait-requires : goal.put_wait-requires
put_wait-requires c = let a = c.args in let e = c.in-Some.ensures in let s = c.loop in record { place = e.1; room = due_first _ _ (rw (rest_more a.t.now s.counter s.last c.loop-test.true e.0 e.1 (ticket_at a.t.now c.in-Some.p) refl) at s.invariant) }

pub loop-preserved : goal.loop-preserved
loop-preserved c = let a = c.args in let e = c.in-Some.ensures in let s = c.loop in rw c.ticket_at-last.ensures (due_then _ _ (rw (rest_more a.t.now s.counter s.last c.loop-test.true e.0 e.1 (ticket_at a.t.now c.in-Some.p) refl) at s.invariant) c.put_wait.ensures)

pub returns : goal.returns
returns c = let a = c.args in let s = c.loop in s.invariant.done (rw (rest_end a.t.now s.counter s.last c.loop-test.false) (appended_none s.w))
