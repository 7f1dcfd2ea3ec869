use borrow.Author.Tests.{eq-eqb, ne_eqb}
use Rattle.cells.specs.Calls.{ticket_place}
use Rattle.cells.specs.Waits.{ticket_at}
use Rattle.model.specs.Sizes.{wait_places}
use Rattle.cells.proofs.Fold.{search_found, search_on, search_end}
use lib.Dec.{eqb}
use native.Mathlib.Omega.{arith}
use mathlib.Core.Path.{◌≡◌, refl, sym, ◌∙◌}
use Rattle.tables.proofs.ticket_place.Goals as goal

pub loop-p-init : goal.loop-p-init
unfolding ticket_place
loop-p-init c = refl

pub returns-then-here-ticket : goal.returns-then-here-ticket
returns-then-here-ticket c = let a = c.args in (sym (c.loop-p.invariant ∙ search_found (λ q. eqb (ticket_at a.t.now q) a.ticket) c.loop-p.p wait_places c.loop-p-test.true (rw (sym c.ticket_at-here.ensures) (eq-eqb _ _ c.if-here-ticket.true))), c.loop-p-test.true)

pub loop-p-preserved : goal.loop-p-preserved
loop-p-preserved c = let a = c.args in c.loop-p.invariant ∙ search_on (λ q. eqb (ticket_at a.t.now q) a.ticket) c.loop-p.p wait_places c.loop-p-test.true (rw (sym c.ticket_at-here.ensures) (ne_eqb _ _ c.if-here-ticket.false))

pub returns : goal.returns
returns c = let a = c.args in let e : c.loop-p.p ≡ wait_places = omega arith in sym (c.loop-p.invariant ∙ search_end (λ q. eqb (ticket_at a.t.now q) a.ticket) c.loop-p.p wait_places c.loop-p-test.false ∙ e)
