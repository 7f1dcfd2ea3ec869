-- The calls that wake, behind 9 and 12: from cells to the meaning.
use Prim.Native.Nat.{ℕ}
use mathlib.Core.Path.{◌≡◌, refl, ◌∙◌}
use mathlib.Core.Bool.{cond}
use mathlib.Core.List.{List, [], ◌∷◌}
use native.Mathlib.Omega.{arith}
use lib.ListN.{length}
use lib.Dec.{ltb}
use Rattle.std.specs.Prelude.{Result, Ok, Err}
use Rattle.model.specs.Sizes.{wake_length}
use Rattle.model.specs.Calls.{Operation, signal, expire, Signal, wake_lent, asks}
use Rattle.model.specs.Steps.{table_step, seen, sees}
use Rattle.cells.specs.Objects.{named}
use Rattle.model.proofs.Logic.{by_bool}
use Rattle.cells.specs.Validity.{valid_cells}
use Rattle.cells.specs.Calls.{Result as Left, refused_with, on_cells, signal_on, signal_cells, expire_on, expire_cells}
use Rattle.kinds.specs.declared.refusal.Refusal.{Refusal}
use Rattle.refine.proofs.Validity.{Words}
use Rattle.signals.specs.declared.Woke.{Woke}
use Rattle.signals.specs.declared.Changed.{Changed}
use Rattle.signals.specs.Values.{left_by, told_by}
use Rattle.ntsync_guard.proofs.Laws.{shown, means, tests}
use Rattle.ntsync_guard.specs.Work.{tested}

-- a call whose cells test the wake list and then do the rest, by the number of the tests (to be read, as landing 3 names them: no proof needs them)
module _ (t wake : List ℕ) {a : ℕ} (q : a ≡ tests t wake) (op : Operation) (rest : Left)
    (d : on_cells op t (wake_lent wake) ≡ cond (ltb (length wake) wake_length) (refused_with 12 t (wake_lent wake)) rest) (w : Words t) where
  pub wakes_refused : (a ≡ 0 → ⊥) → seen (table_step t (asks op (wake_lent wake))) ≡ shown (refused_with a t (wake_lent wake))
  wakes_refused n = means op t (wake_lent wake) w (rw d (by_bool (valid_cells t)
      (λ y. rw y (by_bool (ltb (length wake) wake_length) (λ s. let e : a ≡ 12 = q ∙ rw (y, s) in rw (s, e)) (λ s. absurd (n (q ∙ rw (y, s))))))
      (λ y. let e : a ≡ 9 = q ∙ rw y in rw (y, e))))

  pub wakes_done : {r : Left} → a ≡ 0 → r ≡ rest → seen (table_step t (asks op (wake_lent wake))) ≡ shown r
  wakes_done z e = means op t (wake_lent wake) w (by_bool (valid_cells t)
      (λ y. by_bool (ltb (length wake) wake_length)
      (λ s. absurd (let k : a ≡ 12 = q ∙ rw (y, s) in let n : ⊥ = omega arith in n))
      (λ s. rw (y, d, s) e))
      (λ y. absurd (let k : a ≡ 9 = q ∙ rw y in let n : ⊥ = omega arith in n)))

-- what C is told is what a host sees
told : (r : Result Woke Refusal) (u v : List ℕ) → shown (left_by r u v) ≡ sees ((told_by r).answer ∷ (told_by r).previous ∷ 0 ∷ (told_by r).woken ∷ []) (wake_lent v) u
told (Ok w) u v = refl
told (Err e) u v = refl

module _ (t wake : List ℕ) (r : Result Woke Refusal) {u v : List ℕ} {x : Changed} (w : Words t) (e : x ≡ told_by r) where
  pub signal_told : (how : Signal) (h : ℕ) → left_by r u v ≡ tested t wake (signal_on how h (named t h) t (wake_lent wake))
      → seen (table_step t (asks (signal how h) (wake_lent wake))) ≡ sees (x.answer ∷ x.previous ∷ 0 ∷ x.woken ∷ []) (wake_lent v) u
  unfolding signal_cells
  signal_told how h q = means (signal how h) t (wake_lent wake) w q ∙ told r u v ∙ rw e

  pub expire_told : (clock time : ℕ) → left_by r u v ≡ tested t wake (expire_on clock time t (wake_lent wake))
      → seen (table_step t (asks (expire clock time) (wake_lent wake))) ≡ sees (x.answer ∷ x.previous ∷ 0 ∷ x.woken ∷ []) (wake_lent v) u
  unfolding expire_cells
  expire_told clock time q = means (expire clock time) t (wake_lent wake) w q ∙ told r u v ∙ rw e
