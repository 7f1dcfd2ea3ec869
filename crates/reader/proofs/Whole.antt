-- The whole: from what each line, the objects and the waits gave to all of the text, the tables and the tests.
use Rattle.std.proofs.Common.{◌≡◌, ℕ, ◌-◌, ◌%◌, ◌≤◌, Bool, true, false, ◌&&◌, eqb, List, [], ◌∷◌, ◌++◌, length, take, set, refl, sym, ap, ◌∙◌, arith, append_assoc, length-append}
use Rattle.std.proofs.Math.Seq.{take-append_seam}
use Rattle.model.specs.Sizes.{object_places, wait_places, word32, never}
use Rattle.model.specs.Basics.{all_of}
use Rattle.model.specs.Snapshot.{line, byte_sum}
use Rattle.model.specs.Reading.{good, bad, Reader, ◌>>=◌, give, times, number_line, number32_line, read_object, read_wait, Lines, read_snapshot}
use Rattle.model.specs.RestoreTests.{body_text}
use Rattle.model.proofs.ReadExactly.{number_exact, snapshot_exact}
use Rattle.reader.specs.Values.{ObjectsStored, WaitsStored, AllStored, Stopped}
use Rattle.reader.specs.Storing.{queued_from}
use Rattle.lines.proofs.Shrinking.{Shrinks}
use Rattle.reader.proofs.Shrinking.{object_shrinks, wait_shrinks, snapshot_shrinks, number_shrinks, times_shrinks}

pub stopped : (text from : List ℕ) → read_snapshot text ≡ bad from → Stopped text from
stopped text from e = record { reads = e; within = rw e at (snapshot_shrinks text) }

shorter : {A : Type 0} (m : Reader A) → Shrinks m → (t : List ℕ) {a : A} {rest : List ℕ} → m t ≡ good a rest → length rest ≤ length t
shorter m h t e = rw e at (h t)

four : (a b c d : Bool) → (((a && b) && c) && d) ≡ all_of (a ∷ b ∷ c ∷ d ∷ [])
unfolding all_of
four false b c d = refl
four true false c d = refl
four true true false d = refl
four true true true false = refl
four true true true true = refl

before : (x y t : List ℕ) → t ≡ x ++ y → take (length t - length y) t ≡ x
before x y t e = let n = length-append x y in let k : length (x ++ y) - length y ≡ length x = omega arith in rw (e, k) (take-append_seam x y)

module _ (text t₀ : List ℕ) {a₁ : ℕ} {r₁ : List ℕ} (e₁ : number_line "next=" 1 never text ≡ good a₁ r₁) {a₂ : ℕ} {r₂ : List ℕ} (e₂ : number_line "objects=" 0 object_places r₁ ≡ good a₂ r₂)
    (t₁ r₃ : List ℕ) {o : Bool} (os : ObjectsStored (times a₂ read_object r₂) (set t₀ 0 a₁) t₁ r₃ o) {a₄ : ℕ} {r₄ : List ℕ} (e₄ : number_line "waits=" 0 wait_places r₃ ≡ good a₄ r₄)
    (t₂ r₅ : List ℕ) {q : Bool} (ws : WaitsStored (times a₄ read_wait r₄) t₁ t₂ r₅ q) where
  pub body_within : length r₅ ≤ length text
  body_within = let s₁ = shorter (number_line "next=" 1 never) (number_shrinks "next=" 1 never) text e₁ in let s₂ = shorter (number_line "objects=" 0 object_places) (number_shrinks "objects=" 0 object_places) r₁ e₂ in
      let s₃ = shorter (times a₂ read_object) (times_shrinks a₂ read_object object_shrinks) r₂ os.reads in let s₄ = shorter (number_line "waits=" 0 wait_places) (number_shrinks "waits=" 0 wait_places) r₃ e₄ in
      let s₅ = shorter (times a₄ read_wait) (times_shrinks a₄ read_wait wait_shrinks) r₄ ws.reads in omega arith

  pub sum_bad : (from : List ℕ) → number32_line "sum=" r₅ ≡ bad from → read_snapshot text ≡ bad from
  unfolding read_snapshot ◌>>=◌
  sum_bad from h = rw (e₁, e₂, os.reads, e₄, ws.reads, h)

  module _ {a₆ : ℕ} {r₆ : List ℕ} (e₆ : number32_line "sum=" r₅ ≡ good a₆ r₆) where
    lines : Lines
    lines = record { next = a₁; objects = os.objects; waits = ws.waits; sum = a₆ }

    read_well : read_snapshot text ≡ good lines r₆
    unfolding read_snapshot ◌>>=◌ give lines
    read_well = rw (e₁, e₂, os.reads, e₄, ws.reads, e₆)

    body : take (length text - length r₅) text ≡ body_text lines
    unfolding lines
    body = let w : text ≡ (body_text lines ++ line "sum=" a₆) ++ r₆ = (snapshot_exact.exact text lines r₆ read_well).0 in
        let d : r₅ ≡ line "sum=" a₆ ++ r₆ = ((number_exact "sum=" 0 (word32 - 1)).exact r₅ a₆ r₆ e₆).0 in
        before (body_text lines) r₅ text (w ∙ (append_assoc (body_text lines) (line "sum=" a₆) r₆ ∙ ap (λ (x : List ℕ). body_text lines ++ x) (sym d)))

    pub all_stored : {sum : ℕ} {none : Bool} → sum ≡ byte_sum (take (length text - length r₅) text) % word32 → none ≡ eqb (length r₆) 0 → AllStored text t₀ t₂ (((o && q) && eqb a₆ sum) && none)
    unfolding lines
    all_stored {sum} {none} e n = record {
      lines = lines;
      rest = r₆;
      reads = read_well;
      kept = ws.kept ∙ ap (λ (t : List ℕ). queued_from t 0 ws.waits) os.kept;
      order = four o q (eqb a₆ sum) none ∙ rw (os.order, ws.order, e, body, n);
    }
