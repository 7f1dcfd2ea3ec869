use mathlib.Core.Path.{◌∙◌}
use Rattle.quiet.proofs.Laws.{ready_free, ready_queued}
use Rattle.quiet.proofs.ready_at.Goals as goal

pub returns-then-ticket-eq0 : goal.returns-then-ticket-eq0
returns-then-ticket-eq0 c = ready_free c.args.t.now c.args.p c.ticket_at-ticket.ensures c.if-ticket-eq0.true

pub returns : goal.returns
returns c = c.servable.ensures ∙ ready_queued c.args.t.now c.args.p c.ticket_at-ticket.ensures c.if-ticket-eq0.false
