-- A rule's change and the number that it hands back, of the object that was read.
use Prim.Native.Nat.{ℕ}
use mathlib.Core.Path.{◌≡◌, ◌∙◌}
use mathlib.Core.Bool.{cond}
use mathlib.Core.List.{List}
use lib.Dec.{eqb}
use Rattle.model.specs.Calls.{wake_lent}
use Rattle.cells.specs.Objects.{Fields, Changed, store}
use Rattle.cells.specs.Walk.{wake_cells}
use Rattle.cells.specs.Calls.{Result as Left, refused_with, woke}

-- a change of the object that h names
abbrev pub applied : Changed → ℕ → ℕ → List ℕ → List ℕ → Left
applied c previous h t wake = cond (eqb c.answer 0) (woke previous (wake_cells (store t h c.next) h wake) (wake_lent wake)) (refused_with c.answer t (wake_lent wake))

-- to be read, as landing 3 names it: no proof needs it
module _ (t wake : List ℕ) (h : ℕ) where
  pub signal_is : (rule : Fields → Changed) (number : Fields → ℕ) {x y : Fields} {c : Changed} {r : Left} → x ≡ y → c ≡ rule x → r ≡ applied c (number x) h t wake → r ≡ applied (rule y) (number y) h t wake
  signal_is rule number o e q = q ∙ rw (e, o)
