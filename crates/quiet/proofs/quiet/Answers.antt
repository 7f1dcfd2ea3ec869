use mathlib.Core.Path.{◌≡◌, sym, ap, ◌∙◌}
use mathlib.Core.Bool.{Bool, false, not, ◌||◌}
use Rattle.model.specs.Sizes.{wait_places}
use Rattle.cells.specs.Fold.{some_below}
use Rattle.cells.specs.Attempt.{ready_at}
use Rattle.cells.proofs.Fold.{fold_none, some_more}
use Rattle.refine.proofs.Fold.{some_intro}
use native.Mathlib.Omega.{arith}
use Rattle.quiet.proofs.quiet.Goals as goal

pub loop-p-init : goal.loop-p-init
loop-p-init c = sym (fold_none (λ (b : Bool) q. b || ready_at c.args.t.now q) false)

pub returns-then-here : goal.returns-then-here
returns-then-here c = ap not (sym (some_intro (ready_at c.args.t.now) wait_places c.loop-p.p c.loop-p-test.true (sym c.ready_at-here.ensures ∙ c.if-here.true)))

pub loop-p-preserved : goal.loop-p-preserved
loop-p-preserved c = sym (some_more (ready_at c.args.t.now) c.loop-p.p (sym c.loop-p.invariant) (sym c.if-here.false ∙ c.ready_at-here.ensures))

pub returns : goal.returns
returns c = let e : c.loop-p.p ≡ wait_places = omega arith in ap not (sym c.loop-p.invariant ∙ ap (some_below (ready_at c.args.t.now)) e)
