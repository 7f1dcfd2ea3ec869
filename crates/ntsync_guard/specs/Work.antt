-- The work of a call, behind the tests that come before it.
use Rattle.std.specs.Prelude.{◌≡◌, ◌≤◌, ℕ, List, true, cond, ltb, length, Result, Err}
use Rattle.std.specs.Borrow.{MutBor}
use Rattle.model.specs.Sizes.{wake_length}
use Rattle.model.specs.Calls.{nothing_lent, wake_lent}
use Rattle.cells.specs.Validity.{valid_cells}
use Rattle.cells.specs.Calls.{Result as Left, refused_with, guarded}
use Rattle.kinds.specs.Refusals.{number_of}
use Rattle.kinds.specs.declared.refusal.Refusal.{Refusal}

-- ON TABLES. It may be called on valid ones
abbrev pub OnSound : (MutBor (List ℕ) → Type 0) → Type 0
OnSound pre = (t : MutBor (List ℕ)) → valid_cells t.now ≡ true → pre t

-- what it leaves of a refusal is that
abbrev pub LeavesRefusals : {R : Type 0} → (Result R Refusal → List ℕ → Left) → Type 0
LeavesRefusals left = (e : Refusal) (t : List ℕ) → left (Err e) t ≡ refused_with (number_of e) t nothing_lent

-- what it leaves is what rule says of the tables
abbrev pub LeavesByRule : {R : Type 0} → (MutBor (List ℕ) → Result R Refusal → MutBor (List ℕ) → Type 0) → (Result R Refusal → List ℕ → Left) → (List ℕ → Left) → Type 0
LeavesByRule {R} post left rule = (t : MutBor (List ℕ)) (r : Result R Refusal) (u : MutBor (List ℕ)) → post t r u → left r u.now ≡ rule t.now

-- ON TABLES AND A WAKE LIST that is long enough
abbrev pub OnSoundAndLong : (MutBor (List ℕ) → MutBor (List ℕ) → Type 0) → Type 0
OnSoundAndLong pre = (t w : MutBor (List ℕ)) → valid_cells t.now ≡ true → wake_length ≤ length w.now → pre t w

abbrev pub LeavesRefusalsWoken : {R : Type 0} → (Result R Refusal → List ℕ → List ℕ → Left) → Type 0
LeavesRefusalsWoken left = (e : Refusal) (t w : List ℕ) → left (Err e) t w ≡ refused_with (number_of e) t (wake_lent w)

abbrev pub LeavesByRuleWoken : {R : Type 0} → (MutBor (List ℕ) → MutBor (List ℕ) → Result R Refusal → MutBor (List ℕ) → MutBor (List ℕ) → Type 0) → (Result R Refusal → List ℕ → List ℕ → Left) → (List ℕ → List ℕ → Left) → Type 0
LeavesByRuleWoken {R} post left rule = (t w : MutBor (List ℕ)) (r : Result R Refusal) (u v : MutBor (List ℕ)) → post t w r u v → left r u.now v.now ≡ rule t.now w.now

-- corrupt tables first, then a wake list that is too short
abbrev pub tested : List ℕ → List ℕ → Left → Left
tested t wake r = guarded (wake_lent wake) t (cond (ltb (length wake) wake_length) (refused_with 12 t (wake_lent wake)) r)
