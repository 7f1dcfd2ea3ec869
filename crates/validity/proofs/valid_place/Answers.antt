use mathlib.Core.Path.{◌∙◌}
use Rattle.validity.proofs.Laws.{place_free, place_valid}
use Rattle.validity.proofs.valid_place.Goals as goal

pub returns-then-ticket-eq0 : goal.returns-then-ticket-eq0
returns-then-ticket-eq0 c = let a = c.args in c.free_zero.ensures ∙ place_free a.t.now a.p c.ticket_at-ticket.ensures c.if-ticket-eq0.true

pub returns : goal.returns
returns c = let a = c.args in place_valid a.t.now a.p c.ticket_at-ticket.ensures c.if-ticket-eq0.false c.valid_header-header.ensures c.valid_names-names.ensures
