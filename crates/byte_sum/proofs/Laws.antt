-- The sum of a growing front.
use Rattle.std.proofs.Common.{◌≡◌, ℕ, ◌+◌, ◌%◌, ◌^◌, ◌<◌, List, [], ◌∷◌, ◌++◌, length, get_or, take, ◌∙◌, add-one, arith, take-suc}
use native.Mathlib.Nat.{mod-add-mod}
use Rattle.model.specs.Sizes.{word32}
use Rattle.model.specs.Snapshot.{byte_sum}
use Rattle.model.proofs.SnapshotSum.{sum_append}

-- one more byte
pub sum_more : (bytes : List ℕ) (i : ℕ) {sum next : ℕ} → i < length bytes → sum ≡ byte_sum (take i bytes) % word32 → next ≡ (sum + get_or bytes i 0) % 2 ^ 32 → next ≡ byte_sum (take (i + 1) bytes) % word32
unfolding byte_sum
sum_more bytes i l e n = let b : ℕ = get_or bytes i 0 in
    let a : byte_sum (take i bytes ++ (b ∷ [])) ≡ byte_sum (take i bytes) + b = sum_append (take i bytes) (b ∷ []) ∙ (let z : byte_sum (take i bytes) + (b + 0) ≡ byte_sum (take i bytes) + b = omega arith in z) in
    rw (add-one, take-suc bytes i 0 l, a) (n ∙ rw e (mod-add-mod (byte_sum (take i bytes)) word32 b))
