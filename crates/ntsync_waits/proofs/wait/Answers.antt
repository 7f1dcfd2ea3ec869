use borrow.Author.Rules.{rules}
use mathlib.Core.Path.{refl}
use Rattle.model.specs.Calls.{nothing_lent}
use Rattle.cells.specs.Calls.{wait_on_cells}
use Rattle.waits.specs.Values.{waited_by}
use Rattle.ntsync_waits.proofs.wait.Goals as goal

pub returns : goal.returns
returns c = let a = c.args in let w = a.terms in
    c.guarded.ensures waited_by (λ t. wait_on_cells w.mode a.list.now w.owner w.clock a.pad w.alert w.timeout a.time t nothing_lent) (λ e t. refl) (λ t r u q. search rules)
