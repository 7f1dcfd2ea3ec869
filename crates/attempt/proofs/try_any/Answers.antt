use mathlib.Core.Path.{◌∙◌}
use native.Mathlib.Nat.{le_refl}
use Rattle.attempt.proofs.Laws.{any_took, any_left}
use Rattle.attempt.proofs.try_any.Goals as goal

pub returns-in-Some : goal.returns-in-Some
returns-in-Some c = let a = c.args in let e = c.in-Some.ensures in c.take_one.ensures ∙ any_took a.t.now a.asking a.alert a.list.now e.0 e.1

pub returns-in-None : goal.returns-in-None
returns-in-None c = let a = c.args in c.by_alert.ensures ∙ any_left a.t.now a.asking a.alert a.list.now c.in-None.ensures (le_refl _)
