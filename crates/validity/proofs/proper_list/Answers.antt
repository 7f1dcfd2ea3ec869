use borrow.Author.Rules.{rules}
use Rattle.validity.proofs.Laws.{proper_any, proper_none, proper_all}
use Rattle.validity.proofs.proper_list.Goals as goal

pub returns-then-mode-eq0 : goal.returns-then-mode-eq0
returns-then-mode-eq0 c = let a = c.args in λ y. proper_any a.t.now a.list.now a.mode a.alert c.if-mode-eq0.true c.occupied_list.ensures

pub returns-then-is_empty : goal.returns-then-is_empty
returns-then-is_empty c = let a = c.args in λ y. proper_none a.t.now a.list.now a.mode a.alert c.if-mode-eq0.false (search rules)

pub returns : goal.returns
returns c = let a = c.args in λ y. proper_all a.t.now a.list.now a.mode a.alert (search rules) (c.occupied_once.ensures y)
