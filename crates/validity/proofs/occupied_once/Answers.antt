use Rattle.refine.proofs.Shapes.{once_at, seen_alert, seen_more, once_all, once_empty, once_again, once_more}
use lib.ListN.{length}
use Rattle.cells.proofs.Fold.{fold_none}
use mathlib.Core.Bool.{Bool, true, ◌&&◌, not}
use mathlib.Core.Path.{◌≡◌, sym, ap}
use native.Mathlib.Omega.{arith}
use Rattle.validity.proofs.occupied_once.Goals as goal

pub loop-h-init : goal.loop-h-init
loop-h-init c = let a = c.args in (sym (fold_none (λ (b : Bool) k. b && once_at a.t.now a.list.now a.alert k) true), seen_alert a.alert a.list.now)

pub returns-then-not-occupied : goal.returns-then-not-occupied
returns-then-not-occupied c = let a = c.args in once_empty a.t.now a.list.now a.mode a.alert c.requires c.loop-h.h-index c.loop-h-test.true c.occupied.ensures (ap not c.if-not-occupied.true)

pub returns-then-seen-flag-ne0 : goal.returns-then-seen-flag-ne0
returns-then-seen-flag-ne0 c = let a = c.args in once_again a.t.now a.list.now a.mode a.alert c.requires c.loop-h.h-index c.loop-h-test.true c.loop-h.invariant.1 c.if-seen-flag-ne0.true

pub loop-h-preserved : goal.loop-h-preserved
loop-h-preserved c = let a = c.args in (once_more a.t.now a.list.now a.mode a.alert c.requires c.loop-h.h-index c.loop-h-test.true c.loop-h.invariant.0 c.occupied.ensures (ap not c.if-not-occupied.false) c.loop-h.invariant.1 c.if-seen-flag-ne0.false, seen_more a.alert a.list.now c.loop-h.h-index c.loop-h.invariant.1)

pub returns : goal.returns
returns c = let a = c.args in let e : c.loop-h.h-index ≡ length a.list.now = omega arith in once_all a.t.now a.list.now a.mode a.alert c.requires e c.loop-h.invariant.0
