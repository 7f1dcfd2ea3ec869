use Rattle.model.specs.Snapshot.{line}
use Rattle.decimal.proofs.Laws.{due_all, due_first, due_then}
use Rattle.snapshot.proofs.put_event.Goals as goal

pub line-requires : goal.line-requires
unfolding line
line-requires c = due_first _ _ (due_all c.requires)

pub text-requires : goal.text-requires
unfolding line
text-requires c = let d1 = due_then _ _ (due_all c.requires) c.line.ensures in due_first _ _ d1

pub line-requires-2 : goal.line-requires-2
unfolding line
line-requires-2 c = let d1 = due_then _ _ (due_all c.requires) c.line.ensures in let d2 = due_then _ _ d1 c.text.ensures in due_first _ _ d2

pub line-requires-3 : goal.line-requires-3
unfolding line
line-requires-3 c = let d1 = due_then _ _ (due_all c.requires) c.line.ensures in let d2 = due_then _ _ d1 c.text.ensures in let d3 = due_then _ _ d2 c.line-2.ensures in d3.room

pub returns : goal.returns
unfolding line
returns c = let d1 = due_then _ _ (due_all c.requires) c.line.ensures in let d2 = due_then _ _ d1 c.text.ensures in let d3 = due_then _ _ d2 c.line-2.ensures in d3.done c.line-3.ensures
