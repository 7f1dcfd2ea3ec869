use mathlib.Core.Path.{refl, ◌∙◌}
use Rattle.model.specs.Calls.{wake_lent}
use Rattle.ntsync_guard.proofs.Laws.{corrupt_out, short_out, long_in, none_handed_on}
use Rattle.ntsync_guard.proofs.guarded_wake.Goals as goal

pub returns-in_err-cells : goal.returns-in_err-cells
returns-in_err-cells g c = λ left rule f d. let e = c.in_err-cells.ensures in
    rw (none_handed_on _ c.from_residual.result c.from_residual.ensures e.value e.ok_part) (f _ _ _ ∙ corrupt_out c.args.tables.now refl (wake_lent c.args.wake.now) _ (rw e.ok_part at c.sound_mut.ensures.found))

pub returns-then-wake-lt-WAKE_LENGTH : goal.returns-then-wake-lt-WAKE_LENGTH
returns-then-wake-lt-WAKE_LENGTH g c = λ left rule f d. let e = rw c.in_ok-cells.ensures.ok_part at c.sound_mut.ensures.found in
    f _ _ _ ∙ short_out c.args.tables.now e.0 c.args.wake.now _ e.1 c.if-wake-lt-WAKE_LENGTH.true

pub returns : goal.returns
returns g c = λ left rule f d. let e = rw c.in_ok-cells.ensures.ok_part at c.sound_mut.ensures.found in
    long_in c.args.tables.now e.0 c.args.wake.now _ e.1 c.if-wake-lt-WAKE_LENGTH.false (rw (← e.0) (d _ _ _ _ _ c.work.ensures))
