use mathlib.Core.Path.{◌∙◌}
use Rattle.attempt.proofs.Laws.{list_any, list_all}
use Rattle.attempt.proofs.try_list.Goals as goal

pub returns-then-mode-eq0 : goal.returns-then-mode-eq0
returns-then-mode-eq0 c = let a = c.args in c.try_any.ensures ∙ list_any a.t.now a.asking a.alert a.list.now c.if-mode-eq0.true

pub returns : goal.returns
returns c = let a = c.args in c.try_all.ensures ∙ list_all a.t.now a.asking a.alert a.list.now c.if-mode-eq0.false
