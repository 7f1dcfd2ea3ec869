use mathlib.Core.Path.{sym, ◌∙◌}
use Rattle.ending.proofs.Laws.{better_fails, better_lower, better_not}
use Rattle.ending.proofs.better.Goals as goal

pub returns-then-not-passes-clause-lowest : goal.returns-then-not-passes-clause-lowest
returns-then-not-passes-clause-lowest c = let a = c.args in λ k f. rw (sym (better_fails a.t.now k a.i c.if-not-passes.true)) f

pub returns-then-is_lower-clause-lowest : goal.returns-then-is_lower-clause-lowest
returns-then-is_lower-clause-lowest c = let a = c.args in λ k f. (better_lower a.t.now a.best a.i c.if-not-passes.false (sym c.is_lower.ensures ∙ c.if-is_lower.true) k f, c.requires.place)

pub returns-else-is_lower-clause-lowest : goal.returns-else-is_lower-clause-lowest
returns-else-is_lower-clause-lowest c = let a = c.args in better_not a.t.now a.best a.i c.if-not-passes.false (sym c.is_lower.ensures ∙ c.if-is_lower.false)
