use Rattle.cells.specs.Validity.{valid_fields}
use Rattle.cells.specs.Objects.{fields_at}
use Rattle.model.specs.Sizes.{object_places}
use Rattle.cells.proofs.Fold.{fold_none, fold_more}
use mathlib.Core.Bool.{Bool, true, ◌&&◌}
use mathlib.Core.Path.{◌≡◌}
use native.Mathlib.Omega.{arith}
use Rattle.validity.proofs.valid_objects.Goals as goal

pub loop-p-init : goal.loop-p-init
loop-p-init c = fold_none (λ (b : Bool) q. b && valid_fields (fields_at c.args.t.now q)) true

pub loop-p-preserved : goal.loop-p-preserved
loop-p-preserved c = let a = c.args in cc (fold_more (λ (b : Bool) q. b && valid_fields (fields_at a.t.now q)) true c.loop-p.p)

pub returns : goal.returns
returns c = let e : c.loop-p.p ≡ object_places = omega arith in cc
