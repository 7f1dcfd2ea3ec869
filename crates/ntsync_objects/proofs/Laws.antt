-- Making and creating: from cells to the meaning.
use Prim.Native.Nat.{ℕ}
use mathlib.Core.Path.{◌≡◌, refl, sym, ap, ◌∙◌}
use mathlib.Core.Bool.{Bool, true, false, cond}
use lib.Dec.{eqb}
use Rattle.std.specs.Prelude.{Result, Ok, Err}
use Rattle.kinds.proofs.Laws.{refuses}
use Rattle.kinds.specs.Values.{changed_by, creation}
use Rattle.kinds.specs.declared.object.Object.{Object}
use Rattle.kinds.specs.declared.refusal.Refusal.{Refusal}
use Rattle.calls.specs.Values.{left_by, placed}
use mathlib.Core.List.{List}
use lib.ListN.{length}
use borrow.Author.Tests.{eq-eqb, ne_eqb}
use Rattle.model.specs.Calls.{create, Kind, nothing_lent, asks, bad_new}
use Rattle.model.specs.Layout.{table_length}
use Rattle.model.specs.Steps.{table_step, make_tables, seen}
use Rattle.cells.specs.Objects.{Fields, no_fields, Changed, changed}
use Rattle.cells.specs.Calls.{Result as Left, answered, refused_with, create_cells, new_fields, guarded, made_cells, make_cells}
use Rattle.refine.proofs.Validity.{Words}
use Rattle.refine.proofs.Refinement.{make_means}
use Rattle.ntsync_guard.proofs.Laws.{shown, means}

-- a creation, by what its constructor makes of an empty place
abbrev created_cells : Changed → List ℕ → Left
created_cells c t = cond (eqb c.answer 0) (create_cells false c.next t nothing_lent) (refused_with c.answer t nothing_lent)

by_change : (t : List ℕ) (new : Result Object Refusal) → left_by placed new t ≡ created_cells (changed_by no_fields new) t
by_change t (Ok o) = refl
by_change t (Err r) = rw (refuses r)

by_numbers : (t : List ℕ) (bad : Bool) (x : Fields) → created_cells (cond bad (changed 1 no_fields) (changed 0 x)) t ≡ create_cells bad x t nothing_lent
unfolding create_cells
by_numbers t true x = refl
by_numbers t false x = refl

pub creates : (k : Kind) (x y : ℕ) (t : List ℕ) (new : Result Object Refusal) {r : Left} → Words t → changed_by no_fields new ≡ creation k x y → r ≡ guarded nothing_lent t (left_by placed new t)
    → seen (table_step t (asks (create k x y) nothing_lent)) ≡ shown r
creates k x y t new w q e = means (create k x y) t nothing_lent w (e ∙ ap (guarded nothing_lent t) (by_change t new ∙ ap (λ c. created_cells c t) q ∙ by_numbers t (bad_new k x y) (new_fields k x y)))

-- making
pub made : (t : List ℕ) → length t ≡ table_length → seen (make_tables t) ≡ shown (answered 0 0 0 (made_cells t) nothing_lent)
unfolding make_cells
made t l = ap shown (sym ((let z = eq-eqb (length t) table_length l in rw z) ∙ make_means t))

pub not_made : (t : List ℕ) → (length t ≡ table_length → ⊥) → seen (make_tables t) ≡ shown (refused_with 9 t nothing_lent)
unfolding make_cells
not_made t n = ap shown (sym ((let z = ne_eqb (length t) table_length n in rw z) ∙ make_means t))
