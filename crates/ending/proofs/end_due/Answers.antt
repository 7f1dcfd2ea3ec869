use Rattle.ending.proofs.Laws.{end_stop, end_more, end_last}
use Rattle.model.specs.Sizes.{wait_places}
use mathlib.Core.Path.{◌≡◌, refl, sym, ◌∙◌}
use native.Mathlib.Omega.{arith}
use Rattle.ending.proofs.end_due.Goals as goal

pub loop-k-init : goal.loop-k-init
loop-k-init c = (c.told-t, refl)

pub returns-in_default : goal.returns-in_default
returns-in_default c = let a = c.args in (sym (c.loop-k.invariant.1 ∙ end_stop a.clock a.time c.loop-k.t c.loop-k.wake c.loop-k.k c.loop-k-test.true c.in_default.ensures), omega arith)

pub loop-k-preserved : goal.loop-k-preserved
loop-k-preserved c = let a = c.args in let e = c.in-Some.ensures in (c.leave.array_long, c.loop-k.invariant.1 ∙ end_more a.clock a.time c.loop-k.t c.loop-k.wake c.loop-k.k c.loop-k-test.true e.0 e.1 c.ticket_at-ticket.ensures c.leave.ensures.0 (rw (c.from-in-loop-k.ensures ∙ c.from.ensures) at c.leave.ensures.1))

pub returns : goal.returns
returns c = let a = c.args in let e : c.loop-k.k ≡ wait_places = omega arith in (sym (c.loop-k.invariant.1 ∙ end_last a.clock a.time c.loop-k.t c.loop-k.wake c.loop-k.k c.loop-k-test.false ∙ rw e), omega arith)
