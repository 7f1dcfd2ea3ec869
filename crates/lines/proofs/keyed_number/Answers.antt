use Rattle.lines.proofs.Laws.{strip_none, strip_some, keyless, no_number, too_low, in_range}
use Rattle.lines.proofs.keyed_number.Goals as goal

pub returns-in_err-strip_prefix : goal.returns-in_err-strip_prefix
returns-in_err-strip_prefix c = rw c.from_residual.ensures (keyless c.args.key.now c.args.low c.args.high c.args.text.now (strip_none c.args.key.now c.args.text.now c.in_err-strip_prefix.ensures.cases))

pub returns-in_err-n : goal.returns-in_err-n
returns-in_err-n c = let s = c.in_ok-strip_prefix.ensures.cases in rw c.from_residual-in_err-n.ensures (no_number c.args.key.now c.args.low c.args.high c.args.text.now (strip_some c.args.key.now c.args.text.now s.0) (rw s.1 at c.in_err-n.ensures))

pub returns-then-n-low : goal.returns-then-n-low
returns-then-n-low c = let s = c.in_ok-strip_prefix.ensures.cases in too_low c.args.key.now c.args.low c.args.high c.args.text.now (strip_some c.args.key.now c.args.text.now s.0) c.in_ok-n.n c.in_ok-n.rest.now (rw s.1 at c.in_ok-n.ensures) c.if-n-low.true

pub returns-else-n-low : goal.returns-else-n-low
returns-else-n-low c = let s = c.in_ok-strip_prefix.ensures.cases in in_range c.args.key.now c.args.low c.args.high c.args.text.now (strip_some c.args.key.now c.args.text.now s.0) c.in_ok-n.n c.in_ok-n.rest.now (rw s.1 at c.in_ok-n.ensures) c.if-n-low.false
