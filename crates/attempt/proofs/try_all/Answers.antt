use mathlib.Core.Path.{◌∙◌}
use Rattle.attempt.proofs.Laws.{all_took, all_left}
use Rattle.attempt.proofs.try_all.Goals as goal

pub returns-then-ready : goal.returns-then-ready
returns-then-ready c = let a = c.args in c.take_list.ensures ∙ all_took a.t.now a.asking a.alert a.list.now c.look_all-ready.ensures c.if-ready.true

pub returns : goal.returns
returns c = let a = c.args in c.by_alert.ensures ∙ all_left a.t.now a.asking a.alert a.list.now c.look_all-ready.ensures c.if-ready.false
