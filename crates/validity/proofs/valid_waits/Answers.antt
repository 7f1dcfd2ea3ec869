use Rattle.cells.specs.Validity.{valid_place}
use Rattle.model.specs.Sizes.{wait_places}
use Rattle.cells.proofs.Fold.{fold_none, fold_more}
use mathlib.Core.Bool.{Bool, true, ◌&&◌}
use mathlib.Core.Path.{◌≡◌}
use native.Mathlib.Omega.{arith}
use Rattle.validity.proofs.valid_waits.Goals as goal

pub loop-p-init : goal.loop-p-init
loop-p-init c = fold_none (λ (b : Bool) q. b && valid_place c.args.t.now q) true

pub loop-p-preserved : goal.loop-p-preserved
loop-p-preserved c = let a = c.args in cc (fold_more (λ (b : Bool) q. b && valid_place a.t.now q) true c.loop-p.p)

pub returns : goal.returns
returns c = let e : c.loop-p.p ≡ wait_places = omega arith in cc
