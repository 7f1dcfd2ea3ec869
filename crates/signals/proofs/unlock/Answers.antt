use borrow.Author.Rules.{rules}
use Rattle.refine.proofs.Validity.{small_of}
use Rattle.kinds.specs.Values.{cells_of}
use Rattle.signals.proofs.unlock.Goals as goal

pub change-requires-clause-ruled : goal.change-requires-clause-ruled
change-requires-clause-ruled c = λ o e. let k = small_of c.args.t.now c.args.h (cells_of o) e c.requires.0 in search (rules, k)
