use Rattle.tables.proofs.Laws.{object_empty, object_full}
use Rattle.cells.specs.Calls.{empty_object}
use Rattle.cells.specs.Objects.{fields_at}
use Rattle.kinds.specs.Values.{cells_of}
use Rattle.model.specs.Sizes.{object_places}
use Rattle.cells.proofs.Fold.{search_found, search_on, search_end}
use lib.Dec.{eqb}
use mathlib.Core.Path.{◌≡◌, refl, sym, ◌∙◌}
use native.Mathlib.Omega.{arith}
use Rattle.tables.proofs.empty_object.Goals as goal

pub loop-p-init : goal.loop-p-init
unfolding empty_object
loop-p-init c = refl

pub returns-then-o-eq0 : goal.returns-then-o-eq0
returns-then-o-eq0 c = (sym (c.loop-p.invariant ∙ search_found (λ q. eqb (fields_at c.args.t.now q).kind 0) c.loop-p.p object_places c.loop-p-test.true (object_empty c.args.t.now c.loop-p.p (cells_of c.object_at-o.result) c.object_at-o.ensures c.if-o-eq0.true)), c.loop-p-test.true)

pub loop-p-preserved : goal.loop-p-preserved
loop-p-preserved c = c.loop-p.invariant ∙ search_on (λ q. eqb (fields_at c.args.t.now q).kind 0) c.loop-p.p object_places c.loop-p-test.true (object_full c.args.t.now c.loop-p.p (cells_of c.object_at-o.result) c.object_at-o.ensures c.if-o-eq0.false)

pub returns : goal.returns
returns c = let e : c.loop-p.p ≡ object_places = omega arith in sym (c.loop-p.invariant ∙ search_end (λ q. eqb (fields_at c.args.t.now q).kind 0) c.loop-p.p object_places c.loop-p-test.false ∙ e)
