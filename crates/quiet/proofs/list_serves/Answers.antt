use mathlib.Core.Path.{◌∙◌}
use Rattle.quiet.proofs.Laws.{any_serves, all_serves}
use Rattle.quiet.proofs.list_serves.Goals as goal

pub returns-then-mode-eq0 : goal.returns-then-mode-eq0
returns-then-mode-eq0 c = let a = c.args in c.is_some.ensures ∙ any_serves a.t.now a.mode a.asking a.list.now c.if-mode-eq0.true c.look_any.result c.look_any.ensures

pub returns : goal.returns
returns c = let a = c.args in c.look_all.ensures ∙ all_serves a.t.now a.mode a.asking a.list.now c.if-mode-eq0.false
