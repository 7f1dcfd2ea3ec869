use Rattle.walk.proofs.Laws.{settle_count, settle_any, settle_alert, settle_all, walk_end, walk_none, walk_passed, walk_any, walk_alert, walk_all, look_on, look_fails, look_ends}
use Rattle.attempt.proofs.Laws.{all_start}
use Rattle.cells.specs.Walk.{wake_cells}
use Rattle.cells.specs.Attempt.{any_at, alert_of, all_at}
use Rattle.cells.specs.Waits.{owner_at, list_of}
use lib.ListN.{length}
use mathlib.Core.Path.{◌≡◌, refl, ap}
use mathlib.Core.Bool.{not, true, false}
use Prim.Native.Nat.{ℕ}
use native.Mathlib.Omega.{arith}
use Rattle.walk.proofs.wake.Goals as goal

pub waits-init : goal.waits-init
unfolding wake_cells
waits-init c = (omega arith, c.told-t, refl)

pub returns-in_default : goal.returns-in_default
returns-in_default c = let s = c.waits in (walk_none c.args.h s.turn s.last s.k s.t s.wake s.invariant.2 c.waits-test.true c.in_default.ensures refl, omega (arith, s.invariant.0, c.waits-test.true))

pub waits-preserved-then-not-named : goal.waits-preserved-then-not-named
waits-preserved-then-not-named c = let s = c.waits in let e = c.in-Some.ensures in
    (omega (arith, s.invariant.0), s.invariant.1, walk_passed c.args.h s.turn s.last s.k s.t s.wake s.invariant.2 c.waits-test.true e.0 e.1 c.header_at-w.ensures.ticket c.names_at-named.ensures (ap not c.if-not-named.true))

pub loop-x-init : goal.loop-x-init
loop-x-init c = let s = c.waits in let p : ℕ = c.in-Some.p in (all_start s.t (owner_at s.t p) (list_of s.t p), refl, refl)

pub loop-x-preserved : goal.loop-x-preserved
loop-x-preserved c = let s = c.waits in let u = c.loop-x in let y : c.signaled-here.result ≡ true = grind (arith) in (look_on s.t c.in-Some.p u.x-index c.header_at-w.ensures.owner c.list_of-list.ensures c.signaled-here.ensures (ap not y) u.invariant.0, u.invariant.1, u.invariant.2)

pub waits-preserved-then-w-eq0 : goal.waits-preserved-then-w-eq0
waits-preserved-then-w-eq0 c = let s = c.waits in let p : ℕ = c.in-Some.p in let e = c.in-Some.ensures in let w = c.header_at-w.ensures in
    let v = settle_any s.t s.wake p s.k w.ticket c.any_at-a.ensures c.settle-k.ensures in (
      omega (arith, s.invariant.0, settle_count (any_at s.t p) p s.k s.t s.wake v),
      c.settle-k.array_long,
      walk_any c.args.h s.turn s.last s.k s.t s.wake s.invariant.2 c.waits-test.true e.0 e.1 w.ticket c.names_at-named.ensures (ap not c.if-not-named.false) w.mode c.if-w-eq0.true v,
    )

pub waits-preserved-then-not-here : goal.waits-preserved-then-not-here
waits-preserved-then-not-here c = let s = c.waits in let p : ℕ = c.in-Some.p in let e = c.in-Some.ensures in let w = c.header_at-w.ensures in let u = c.loop-x in let y : c.signaled-here.result ≡ false = grind (arith) in
    let v = settle_alert s.t u.wake p u.k w.ticket c.alert_of-a.ensures c.settle-k-then-not-here.ensures in (
      omega (arith, s.invariant.0, settle_count (alert_of s.t p) p u.k s.t u.wake v, u.invariant.2),
      c.settle-k-then-not-here.array_long,
      walk_alert c.args.h s.turn s.last s.k s.t s.wake s.invariant.2 c.waits-test.true e.0 e.1 w.ticket c.names_at-named.ensures (ap not c.if-not-named.false) w.mode c.if-w-eq0.false u.invariant.1 u.invariant.2
          (look_fails s.t p u.x-index w.owner c.list_of-list.ensures c.signaled-here.ensures c.loop-x-test.true (ap not y)) v,
    )

pub waits-preserved : goal.waits-preserved
waits-preserved c = let s = c.waits in let p : ℕ = c.in-Some.p in let e = c.in-Some.ensures in let w = c.header_at-w.ensures in let u = c.loop-x in
    let v = settle_all s.t u.wake p u.k w.ticket c.all_at-a.ensures c.settle-k-in-waits.ensures in (
      omega (arith, s.invariant.0, settle_count (all_at s.t p) p u.k s.t u.wake v, u.invariant.2),
      c.settle-k-in-waits.array_long,
      walk_all c.args.h s.turn s.last s.k s.t s.wake s.invariant.2 c.waits-test.true e.0 e.1 w.ticket c.names_at-named.ensures (ap not c.if-not-named.false) w.mode c.if-w-eq0.false u.invariant.1 u.invariant.2
          (look_ends s.t p u.x-index (omega (arith, ap length c.list_of-list.ensures, c.loop-x-test.false)) u.invariant.0) v,
    )

pub returns : goal.returns
returns c = let s = c.waits in (walk_end c.args.h s.turn s.last s.k s.t s.wake s.invariant.2 c.waits-test.false, omega (arith, s.invariant.0))
