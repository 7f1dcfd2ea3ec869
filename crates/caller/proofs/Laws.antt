-- The first cell of the filled front.
use Prim.Native.Nat.{ℕ, ◌*◌}
use mathlib.Core.Path.{◌≡◌, refl, sym, ap}
use mathlib.Core.List.{List, [], ◌∷◌}
use lib.ListN.{get_or, take}
use Rattle.model.specs.Calls.{wake_lent, Call}
use Rattle.model.specs.Steps.{table_step, sees, seen, Handed, handed}
use Rattle.ntsync_fronts.proofs.Laws.{handed_is}

module _ (t : List ℕ) (c : Call) {a x n : ℕ} {wake u : List ℕ} (e : seen (table_step t c) ≡ sees (a ∷ x ∷ 0 ∷ n ∷ []) (wake_lent wake) u) where
  pub first_is : get_or (take (3 * n) wake) 0 0 ≡ get_or (handed (table_step t c)).front 0 0
  first_is = sym (ap (λ (s : Handed). get_or s.front 0 0) (handed_is t c e refl))
