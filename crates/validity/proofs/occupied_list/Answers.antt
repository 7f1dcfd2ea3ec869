use Rattle.cells.specs.Validity.{occupied_at, occupied_list}
use lib.ListN.{length, get_or}
use Rattle.cells.proofs.Fold.{fold_none, fold_more}
use mathlib.Core.Bool.{Bool, true, ◌&&◌}
use mathlib.Core.Path.{◌≡◌}
use native.Mathlib.Omega.{arith}
use Rattle.validity.proofs.occupied_list.Goals as goal

pub loop-h-init : goal.loop-h-init
loop-h-init c = let a = c.args in fold_none (λ (b : Bool) k. b && occupied_at a.t.now (get_or a.list.now k 0)) true

pub loop-h-preserved : goal.loop-h-preserved
loop-h-preserved c = let a = c.args in cc (fold_more (λ (b : Bool) k. b && occupied_at a.t.now (get_or a.list.now k 0)) true c.loop-h.h-index)

pub returns : goal.returns
unfolding occupied_list
returns c = let e : c.loop-h.h-index ≡ length c.args.list.now = omega arith in cc
