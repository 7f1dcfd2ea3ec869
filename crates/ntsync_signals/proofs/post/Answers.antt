use Rattle.std.specs.Prelude.{ℕ, List}
use borrow.Author.Rules.{rules}
use mathlib.Core.Path.{refl}
use Rattle.signals.specs.Values.{left_by}
use Rattle.model.specs.Calls.{post, wake_lent}
use Rattle.cells.specs.Objects.{named}
use Rattle.cells.specs.Calls.{signal_on}
use Rattle.ntsync_signals.proofs.Laws.{signal_told}
use Rattle.ntsync_signals.proofs.post.Goals as goal

pub returns : goal.returns
returns c = let a = c.args in signal_told a.tables.now a.wake.now c.guarded_wake.result (λ i. search rules) c.from.ensures (post a.add) a.handle
    (c.guarded_wake.ensures left_by (λ (t w : List ℕ). signal_on (post a.add) a.handle (named t a.handle) t (wake_lent w)) (λ e t w. refl) (λ t w r u v q. search rules))
