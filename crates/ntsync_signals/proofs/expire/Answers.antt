use Rattle.std.specs.Prelude.{ℕ, List}
use borrow.Author.Rules.{rules}
use mathlib.Core.Path.{refl}
use Rattle.signals.specs.Values.{left_by}
use Rattle.model.specs.Calls.{wake_lent}
use Rattle.cells.specs.Calls.{expire_on}
use Rattle.ntsync_signals.proofs.Laws.{expire_told}
use Rattle.ntsync_signals.proofs.expire.Goals as goal

pub returns : goal.returns
returns c = let a = c.args in expire_told a.tables.now a.wake.now c.guarded_wake.result (λ i. search rules) c.from.ensures a.clock a.time
    (c.guarded_wake.ensures left_by (λ (t w : List ℕ). expire_on a.clock a.time t (wake_lent w)) (λ e t w. refl) (λ t w r u v q. search rules))
