-- The readings of AcceptanceTables.antt, with the law that they take.
use mathlib.Core.Path.{◌≡◌}
use mathlib.Core.Bool.{true, not, ◌&&◌}
use lib.ListN.{length}
use lib.Dec.{ltb, leb}
use borrow.Author.Tests.{ltb-true, leb-true, eqb-true, not-true, not-false}
use Rattle.model.specs.Sizes.{max_listed}
use Rattle.model.specs.Waits.{State}
use Rattle.model.specs.Layout.{valid_tables}
use Rattle.model.proofs.AcceptanceTables.{fits, ShownByPlaces, state, TableReadings, readings_by_places, TextReading, text_by_places}
use Rattle.model.proofs.Logic.{passed, and_split}
use Rattle.model.proofs.Valid.{waiting_none}
use Rattle.model.proofs.Cells.{Shaped, view_shaped}
use Rattle.model.proofs.Validity.{same_refl}

fits_shaped : (s : State) → fits s ≡ true → Shaped s
fits_shaped s e = let (t0, (t1, (t2, t3))) = passed _ e in record {
  places = eqb-true _ _ t0;
  slots = eqb-true _ _ t1;
  waits = λ w m. let r = and_split (ltb 0 w.ticket) (leb (length w.list) max_listed) (not-false _ (waiting_none (λ w. not (ltb 0 w.ticket && leb (length w.list) max_listed)) s.waits (not-true _ t2) w m)) in
      (ltb-true _ _ r.0, leb-true _ _ r.1);
}

shown_by_places : ShownByPlaces
unfolding valid_tables
shown_by_places r (e, f) = let v = view_shaped (state r) (fits_shaped (state r) f) in rw e (v, rw (v, same_refl _))

pub table_readings : TableReadings
table_readings = readings_by_places shown_by_places

pub text_reading : TextReading
text_reading = text_by_places shown_by_places
