use mathlib.Core.Path.{◌∙◌}
use Rattle.tables.proofs.Laws.{queued_is}
use Rattle.tables.proofs.queue.Goals as goal

pub returns : goal.returns
returns c = let a = c.args in let w = a.terms in c.put_next.ensures ∙ queued_is a.t.now a.p w.mode a.list.now w.owner w.clock w.alert w.timeout c.next_ticket-ticket.ensures c.put_header.ensures c.put_list.ensures
