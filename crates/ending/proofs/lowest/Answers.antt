use Rattle.std.specs.Prelude.{ℕ}
use mathlib.Core.Path.{◌≡◌, subst}
use native.Mathlib.Omega.{arith}
use Rattle.model.specs.Sizes.{wait_places}
use Rattle.cells.specs.Fold.{fold_below}
use Rattle.cells.specs.Waits.{better, lowest}
use Rattle.tables.specs.Found.{Found}
use Rattle.ending.proofs.Laws.{lowest_start, lowest_more}
use Rattle.ending.proofs.lowest.Goals as goal

pub loop-i-init : goal.loop-i-init
loop-i-init g c = (tt, λ ok h. lowest_start c.args.t.now ok)

pub loop-i-preserved : goal.loop-i-preserved
loop-i-preserved g c = (
  c.better-best.ensures.bound,
  λ ok h.
      subst (λ (n : ℕ). Found c.better-best.result n wait_places) (lowest_more c.args.t.now ok c.loop-i.i (h c.loop-i.i _ c.loop-i-test.true c.passes-here.ensures)) (c.better-best.ensures.lowest _ (c.loop-i.invariant.1 ok h)),
)

pub returns : goal.returns
unfolding lowest
returns g c = λ ok h. let e : c.loop-i.i ≡ wait_places = omega arith in
    subst (λ (n : ℕ). Found c.loop-i.best (fold_below (better c.args.t.now ok) wait_places n) wait_places) e (c.loop-i.invariant.1 ok h)
