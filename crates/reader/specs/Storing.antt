-- What code makes of the lines that it has read: cells of tables, stored as it goes.
use Rattle.std.specs.Prelude.{List, [], ◌∷◌, ℕ, suc, length, replicate}
use Rattle.model.specs.Objects.{Object}
use Rattle.model.specs.Waits.{Wait}
use Rattle.model.specs.Layout.{mode_cell, table_length}
use Rattle.model.specs.Reading.{Lines}
use Rattle.cells.specs.Objects.{store}
use Rattle.cells.specs.Waits.{put_next}
use Rattle.cells.specs.Calls.{put_header, put_list}
use Rattle.refine.proofs.Objects.{fields_of}

-- each object at the place of its handle
unfoldable pub stored : List ℕ → List (ℕ × Object) → List ℕ
stored t [] = t
stored t (x ∷ xs) = stored (store t x.0 (fields_of x.1)) xs

-- waits at the places from p on
unfoldable pub queued_from : List ℕ → ℕ → List Wait → List ℕ
queued_from t p [] = t
queued_from t p (w ∷ ws) = queued_from (put_list (put_header t p w.ticket (mode_cell w.mode) w.owner w.clock w.timeout (length w.list) w.alert) p w.list) (suc p) ws

-- all of it, into tables of zeros
abbrev pub built : Lines → List ℕ
built l = queued_from (stored (put_next (replicate table_length 0) l.next) l.objects) 0 l.waits
