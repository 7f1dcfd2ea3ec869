-- What a call that hands back a number tells.
use Prim.Native.Nat.{ℕ}
use mathlib.Core.Path.{◌≡◌, refl}
use mathlib.Core.List.{List, [], ◌∷◌}
use Rattle.std.specs.Prelude.{Result, Ok, Err, MatchResult}
use Rattle.std.specs.Result.{IsOkAnd}
use Rattle.model.specs.Calls.{nothing_lent}
use Rattle.model.specs.Steps.{sees}
use Rattle.kinds.specs.declared.refusal.Refusal.{Refusal}
use Rattle.signals.specs.declared.Woke.{Woke}
use Rattle.signals.specs.Values.{told_by}
use Rattle.calls.specs.Values.{left_by, number}
use Rattle.ntsync_guard.proofs.Laws.{shown}

pub number_told : {P : ℕ → Woke → Type 0} (u : List ℕ) (r : Result ℕ Refusal) (m : Result Woke Refusal) → ((n : ℕ) (w : Woke) → P n w → w ≡ record { previous = n; woken = 0 })
    → MatchResult r (λ n. IsOkAnd m (P n)) (λ e. m ≡ Err e) → shown (left_by number r u) ≡ sees ((told_by m).answer ∷ (told_by m).previous ∷ 0 ∷ (told_by m).woken ∷ []) nothing_lent u
number_told u (Ok n) (Ok w) f h = rw (f n w h) refl
number_told u (Ok n) (Err e) f h = absurd h
number_told u (Err e) m f h = rw h refl
