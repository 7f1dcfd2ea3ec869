use Rattle.cells.specs.Validity.{alone_at}
use Rattle.cells.specs.Waits.{ticket_at}
use lib.Dec.{eqb}
use Rattle.cells.proofs.Fold.{fold_none, fold_more}
use mathlib.Core.Bool.{Bool, true, not, ◌&&◌}
use mathlib.Core.Path.{◌≡◌, sym}
use native.Mathlib.Omega.{arith}
use Rattle.validity.proofs.alone.Goals as goal

pub loop-q-init : goal.loop-q-init
loop-q-init c = fold_none (λ (b : Bool) k. b && not (eqb (ticket_at c.args.t.now k) c.ticket_at-ticket.result)) true

pub loop-q-preserved : goal.loop-q-preserved
loop-q-preserved c = let a = c.args in cc (fold_more (λ (b : Bool) k. b && not (eqb (ticket_at a.t.now k) c.ticket_at-ticket.result)) true c.loop-q.q)

pub returns : goal.returns
unfolding alone_at
returns c = let e : c.loop-q.q ≡ c.args.p = omega arith in rw (sym c.ticket_at-ticket.ensures, sym e) c.loop-q.invariant
