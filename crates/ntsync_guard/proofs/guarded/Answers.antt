use mathlib.Core.Path.{refl, ◌∙◌}
use Rattle.model.specs.Calls.{nothing_lent}
use Rattle.ntsync_guard.proofs.Laws.{corrupt_out, sound_in, none_handed_on}
use Rattle.ntsync_guard.proofs.guarded.Goals as goal

pub returns-in_err-t : goal.returns-in_err-t
returns-in_err-t g c = λ left rule f d. let e = c.in_err-t.ensures in
    rw (none_handed_on _ c.from_residual.result c.from_residual.ensures e.value e.ok_part) (f _ _ ∙ corrupt_out c.args.tables.now refl nothing_lent _ (rw e.ok_part at c.sound_mut.ensures.found))

pub returns : goal.returns
returns g c = λ left rule f d. let e = rw c.in_ok-t.ensures.ok_part at c.sound_mut.ensures.found in
    sound_in c.args.tables.now e.0 nothing_lent e.1 (rw (← e.0) (d _ _ _ c.work.ensures))
