-- The snapshot, behind 9 and 12: there is room for the text, and what is left is what `cells` says.
use Prim.Native.Nat.{ℕ, ◌<◌, ◌≤◌}
use mathlib.Core.Path.{◌≡◌, ◌∙◌}
use mathlib.Core.Bool.{true}
use mathlib.Core.List.{List, []}
use native.Mathlib.Omega.{arith}
use lib.ListN.{length}
use native.Mathlib.Nat.{zero-add}
use borrow.Author.Tests.{lt-ltb, le-ltb}
use Rattle.model.specs.Calls.{buffer_lent}
use Rattle.model.specs.Sizes.{snapshot_buffer, longest_snapshot}
use Rattle.model.specs.Basics.{overwrite}
use Rattle.model.proofs.Cells.{overwrite_more}
use Rattle.cells.specs.Validity.{valid_cells}
use Rattle.cells.specs.Calls.{answered, refused_with, guarded, snapshot_cells}
use Rattle.cells.specs.Snapshot.{snapshot_of}
use Rattle.decimal.specs.Text.{Room, Wrote}
use Rattle.refine.proofs.Validity.{Words}
use Rattle.refine.proofs.Refinement.{snapshot_short}

module _ (t buffer : List ℕ) (w : Words t) (v : valid_cells t ≡ true) where
  abbrev text : List ℕ
  text = snapshot_of t

  pub snapshot_low : length text ≤ longest_snapshot
  snapshot_low = snapshot_short t w v

  pub snapshot_room : snapshot_buffer ≤ length buffer → Room buffer 0 text
  snapshot_room l = let h = snapshot_low in omega arith

  pub snapshot_refused : length buffer < snapshot_buffer → refused_with 12 t (buffer_lent buffer) ≡ guarded (buffer_lent buffer) t (snapshot_cells t (buffer_lent buffer))
  unfolding snapshot_cells
  snapshot_refused l = rw (v, lt-ltb (length buffer) snapshot_buffer l)

  pub snapshot_done : {k : ℕ} {end : List ℕ} → snapshot_buffer ≤ length buffer → Wrote buffer 0 text k end
      → answered 0 k 0 t (buffer_lent end) ≡ guarded (buffer_lent buffer) t (snapshot_cells t (buffer_lent buffer))
  unfolding snapshot_cells
  snapshot_done {k} {end} l r = let f : end ≡ overwrite text buffer = r.0 ∙ overwrite_more [] buffer text in let j : k ≡ length text = r.1 ∙ zero-add (length text) in
      rw (v, le-ltb (length buffer) snapshot_buffer l, f, j)
