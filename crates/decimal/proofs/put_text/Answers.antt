use Rattle.decimal.proofs.Laws.{wrote_more, wrote_all}
use lib.ListN.{length, length-set}
use mathlib.Core.Path.{◌≡◌, refl}
use native.Mathlib.Omega.{arith}
use Rattle.decimal.proofs.put_text.Goals as goal

pub loop-i-init : goal.loop-i-init
loop-i-init c = (refl, refl)

pub loop-i-preserved : goal.loop-i-preserved
loop-i-preserved c = let a = c.args in (simp length-set c.loop-i.invariant.0, wrote_more a.buf.now a.text.now a.at c.loop-i.i c.loop-i-test.true c.loop-i.invariant.1)

pub returns : goal.returns
returns c = let a = c.args in let e : c.loop-i.i ≡ length a.text.now = omega arith in rw e at (wrote_all a.buf.now a.text.now a.at c.loop-i.i e c.loop-i.invariant.1)
