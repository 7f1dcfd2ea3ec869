use Rattle.std.proofs.Common.{arith, rules}
use Rattle.lines.proofs.Laws.{strip_none, strip_some, number_none, first_over, first_reached, zero_more, next_over, next_reached, number_unfed, number_read}
use Rattle.lines.proofs.number.Goals as goal

pub returns-in_err-n : goal.returns-in_err-n
returns-in_err-n c = rw c.from_residual.ensures (number_none c.args.high c.args.text.now c.in_err-n.ensures)

pub returns-then-high-n : goal.returns-then-high-n
returns-then-high-n c = first_over c.args.high c.args.text.now c.in_ok-n.n c.in_ok-n.ensures.0 c.if-high-n.true

pub loop-d-init : goal.loop-d-init
loop-d-init c = rw c.in_ok-n.ensures.1 (first_reached c.args.high c.args.text.now c.in_ok-n.n c.in_ok-n.ensures.0 c.if-high-n.false)

pub returns-then-n-eq0 : goal.returns-then-n-eq0
returns-then-n-eq0 c = zero_more c.args.high c.args.text.now c.loop-d.n c.loop-d.rest.now c.loop-d.invariant c.in-Some.d c.in-Some.ensures.0 (search rules) c.if-n-eq0.true

pub returns-in_err-n-2 : goal.returns-in_err-n-2
returns-in_err-n-2 c = rw c.from_residual-in_err-n-2.ensures (next_over c.args.high c.args.text.now c.loop-d.n c.loop-d.rest.now c.loop-d.invariant c.in-Some.d c.in-Some.ensures.0 c.in_err-n-2.ensures)

pub loop-d-preserved : goal.loop-d-preserved
loop-d-preserved c = let k = c.in_ok-n-2.ensures in rw (k.0, c.in-Some.ensures.1) (next_reached c.args.high c.args.text.now c.loop-d.n c.loop-d.rest.now c.loop-d.invariant c.in-Some.d c.in-Some.ensures.0 (search rules) c.if-n-eq0.false (omega arith))

pub returns-in_err-strip_prefix : goal.returns-in_err-strip_prefix
returns-in_err-strip_prefix c = rw c.from_residual-in_err-strip_prefix.ensures (number_unfed c.args.high c.args.text.now c.loop-d.n c.loop-d.rest.now c.loop-d.invariant c.in_default.ensures (strip_none _ c.loop-d.rest.now c.in_err-strip_prefix.ensures.cases))

pub returns : goal.returns
returns c = let s = c.in_ok-strip_prefix.ensures.cases in rw s.1 (number_read c.args.high c.args.text.now c.loop-d.n c.loop-d.rest.now c.loop-d.invariant c.in_default.ensures _ (strip_some _ c.loop-d.rest.now s.0))
