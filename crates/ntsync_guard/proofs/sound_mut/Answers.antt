use mathlib.Core.Path.{refl, sym, ap, ◌∙◌}
use Rattle.cells.specs.Validity.{valid_cells}
use Rattle.ntsync_guard.proofs.Laws.{found_sound}
use Rattle.ntsync_guard.proofs.sound_mut.Goals as goal

pub returns-in-Ok : goal.returns-in-Ok
returns-in-Ok c = (
  refl,
  record {
    lends = tt;
    found = found_sound c.args.tables.now c.as_mut_array.result (λ y h. h.same) (ap valid_cells (sym c.in-Ok.ensures) ∙ c.in-Ok.field-0.valid) c.as_mut_array.ensures.cases;
  },
)
