use mathlib.Core.Path.{◌∙◌}
use Rattle.quiet.proofs.Laws.{served_by_list, served_by_alert}
use Rattle.quiet.proofs.servable.Goals as goal

pub returns-then-here : goal.returns-then-here
returns-then-here c = let w = c.header_at.ensures in served_by_list c.args.t.now c.args.p (rw (w.mode, w.owner, c.list_of-list.ensures) at c.list_serves-here.ensures) c.if-here.true

pub returns : goal.returns
returns c = let w = c.header_at.ensures in rw (w.owner, w.alert) at c.signaled.ensures ∙ served_by_alert c.args.t.now c.args.p (rw (w.mode, w.owner, c.list_of-list.ensures) at c.list_serves-here.ensures) c.if-here.false
