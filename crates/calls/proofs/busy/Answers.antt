use Rattle.cells.proofs.Fold.{fold_none, some_more}
use Rattle.cells.specs.Calls.{busy_at}
use Rattle.model.specs.Sizes.{wait_places}
use mathlib.Core.Bool.{Bool, false, ◌||◌}
use mathlib.Core.Path.{◌≡◌}
use native.Mathlib.Omega.{arith}
use Rattle.calls.proofs.busy.Goals as goal

pub loop-p-init : goal.loop-p-init
loop-p-init c = let a = c.args in fold_none (λ (b : Bool) q. b || busy_at a.t.now a.h q) false

pub loop-p-preserved : goal.loop-p-preserved
loop-p-preserved c = let a = c.args in some_more (busy_at a.t.now a.h) c.loop-p.p c.loop-p.invariant c.busy_at-found.ensures

pub returns : goal.returns
returns c = let e : c.loop-p.p ≡ wait_places = omega arith in cc
