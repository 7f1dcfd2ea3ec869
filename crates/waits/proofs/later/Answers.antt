use mathlib.Core.Path.{sym}
use Rattle.model.specs.Calls.{nothing_lent}
use Rattle.waits.proofs.Laws.{later_up, later_full, later_spent, later_queued}
use native.Mathlib.Omega.{arith}
use Rattle.waits.proofs.later.Goals as goal

pub returns-then-up : goal.returns-then-up
returns-then-up c = let a = c.args in later_up a.t.now a.terms a.list.now a.time nothing_lent c.time_up-up.ensures c.if-up.true

pub returns-in_err-p : goal.returns-in_err-p
returns-in_err-p c = let a = c.args in let e = later_full a.t.now a.terms a.list.now a.time nothing_lent c.time_up-up.ensures c.if-up.false (rw c.in_err-p.ensures.ok_part at c.ticket_place.ensures) in let g = c.in_err-p.ensures.value in search (arith, e, g, c.from_residual.ensures)

pub returns-then-ticket : goal.returns-then-ticket
returns-then-ticket c = let a = c.args in later_spent a.t.now a.terms a.list.now a.time nothing_lent c.time_up-up.ensures c.if-up.false (rw c.in_ok-p.ensures.ok_part at c.ticket_place.ensures) c.next_ticket-ticket.ensures c.if-ticket.true

pub queue-requires : goal.queue-requires
queue-requires c = ((rw c.in_ok-p.ensures.ok_part at c.ticket_place.ensures).1, c.requires, rw (sym c.next_ticket-ticket.ensures) (omega (arith, c.if-ticket.false, c.next_ticket-ticket.type_inv)))

pub returns : goal.returns
returns c = let a = c.args in later_queued a.t.now a.terms a.list.now a.time nothing_lent c.time_up-up.ensures c.if-up.false (rw c.in_ok-p.ensures.ok_part at c.ticket_place.ensures) c.next_ticket-ticket.ensures (omega (arith, c.if-ticket.false, c.next_ticket-ticket.type_inv)) c.queue.ensures
