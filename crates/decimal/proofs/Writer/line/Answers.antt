use Rattle.std.proofs.Common.{ℕ, List, [], ◌∷◌, ◌++◌}
use Rattle.model.specs.Snapshot.{digits_up_to}
use Rattle.decimal.proofs.Laws.{due_all, due_first, due_then}
use Rattle.decimal.proofs.Writer.line.Goals as goal

abbrev feed : List ℕ
feed = 10 ∷ []

pub text-requires : goal.text-requires
text-requires c = let n = digits_up_to 19 c.args.n in due_first c.args.key.now (n ++ feed) (due_all c.requires)

pub number-requires : goal.number-requires
number-requires c = let n = digits_up_to 19 c.args.n in let d = due_then c.args.key.now (n ++ feed) (due_all c.requires) c.text.ensures in due_first n feed d

pub text-requires-2 : goal.text-requires-2
text-requires-2 c = let n = digits_up_to 19 c.args.n in let d = due_then c.args.key.now (n ++ feed) (due_all c.requires) c.text.ensures in (due_then n feed d c.number.ensures).room

pub returns : goal.returns
returns c = let n = digits_up_to 19 c.args.n in let d = due_then c.args.key.now (n ++ feed) (due_all c.requires) c.text.ensures in (due_then n feed d c.number.ensures).done c.text-2.ensures
