-- What the writer's definitions come to on each way through the code.
use Prim.Native.Nat.{ℕ, zero, suc, ◌+◌, ◌-◌, ◌%◌, ◌≤◌, ◌<◌}
use mathlib.Core.Path.{◌≡◌, refl, sym, ap, ◌∙◌}
use mathlib.Core.Bool.{Bool, cond}
use mathlib.Core.List.{List, [], ◌∷◌, ◌++◌, map}
use mathlib.Core.Logic.{⊎_elim}
use native.Mathlib.Omega.{arith}
use native.Mathlib.Nat.{zero-add, le_refl, eq-or-lt_of_le, le_of_suc-le-suc}
use native.Mathlib.Numerals.{add-one}
use borrow.Author.Tests.{lt-ltb, le-ltb}
use lib.ListN.{length, take, length-append}
use Rattle.std.specs.List.{filter, range_with_len}
use Rattle.std.proofs.lemmas.List.FromFn.{filter_of_map_range_with_len_more}
use Rattle.std.proofs.Common.{map-id}
use Rattle.model.proofs.Logic.{by_bool}
use Rattle.model.specs.Snapshot.{line, byte_sum}
use Rattle.cells.specs.Fold.{fold_below}
use Rattle.model.specs.Basics.{bit}
use Rattle.cells.specs.Snapshot.{objects_text_below, object_total, wait_total, wait_lines, wait_text_at, waits_text_from, body_of, snapshot_of}
use Rattle.cells.specs.Waits.{next_ticket, ticket_at, mode_at, owner_at, clock_at, timeout_at, alert_at, list_of, next_wait}
use Rattle.model.specs.Sizes.{object_places, wait_places, word32}
use Rattle.decimal.specs.declared.Writer.{Writer}
use Rattle.decimal.specs.Text.{Room}
use Rattle.decimal.specs.Writing.{HasRoom, Appended}
use Rattle.decimal.proofs.Laws.{Due, due_all, due_first, due_then, appended_none, appended_then, written_front, written_within}

-- texts end to end, by a counting loop
abbrev pub text_below : (ℕ → List ℕ) → ℕ → List ℕ
text_below f n = fold_below (λ text i. text ++ f i) [] n

grows : (f : ℕ → List ℕ) (i n : ℕ) → i ≤ n → length (text_below f i) ≤ length (text_below f n)
unfolding fold_below
grows f i zero h = let e : i ≡ 0 = omega arith in rw e (le_refl (length (text_below f 0)))
grows f i (suc n) h = ⊎_elim (λ e. rw e (le_refl (length (text_below f (suc n))))) (λ l. let g = grows f i n (le_of_suc-le-suc l) in let a = length-append (text_below f n) (f n) in omega arith) (eq-or-lt_of_le h)

module _ (f : ℕ → List ℕ) {w : Writer} where
  pub text_start : Appended w w (text_below f 0)
  unfolding fold_below
  text_start = appended_none w

  module _ (i : ℕ) {v : Writer} (a : Appended w v (text_below f i)) where
    pub text_room : (n : ℕ) → i < n → HasRoom w (text_below f n) → HasRoom v (f i)
    unfolding fold_below
    text_room n l h = let g = grows f (suc i) n l in let r = h.fits in (due_then (text_below f i) (f i) (due_all (record { fits = omega arith })) a).room

    pub text_more : {u : Writer} → Appended v u (f i) → Appended w u (text_below f (i + 1))
    unfolding fold_below
    text_more b = rw add-one (appended_then (text_below f i) (f i) a b)

-- counting
abbrev pub counted : (ℕ → Bool) → ℕ → ℕ
counted f n = fold_below (λ (k : ℕ) i. k + bit (f i)) 0 n

counted_last : (f : ℕ → Bool) (n k : ℕ) (list : List ℕ) → length list ≡ k → length (list ++ cond (f n) (n ∷ []) []) ≡ k + bit (f n)
counted_last f n k list e = rw (length-append, e) (by_bool (f n) (λ y. rw y) (λ z. rw z))

counted_to : (f : ℕ → Bool) (n : ℕ) → length (filter f (map (λ i. i) (range_with_len 0 n))) ≡ counted f n
unfolding fold_below
counted_to f zero = refl
counted_to f (suc n) = ap (λ (m : ℕ). length (filter f (map (λ i. i) (range_with_len 0 m)))) (sym (add-one n)) ∙ ap length (filter_of_map_range_with_len_more f (λ i. i) 0 n n (zero-add n)) ∙ counted_last f n (counted f n) _ (counted_to f n)

pub counted_is : (f : ℕ → Bool) (n : ℕ) → length (filter f (range_with_len 0 n)) ≡ counted f n
counted_is f n = ap (λ (list : List ℕ). length (filter f list)) (sym (map-id (range_with_len 0 n))) ∙ counted_to f n

-- a wait's text from what was read of it
pub wait_lines_lem : (t : List ℕ) (p : ℕ) {ticket mode owner clock timeout alert : ℕ} {list : List ℕ} → ticket ≡ ticket_at t p → mode ≡ mode_at t p → owner ≡ owner_at t p → clock ≡ clock_at t p → timeout ≡ timeout_at t p → alert ≡ alert_at t p → list ≡ list_of t p
    → wait_lines ticket mode owner clock timeout alert list ≡ wait_text_at t p
unfolding wait_text_at
wait_lines_lem t p e₁ e₂ e₃ e₄ e₅ e₆ e₇ = rw (e₁, e₂, e₃, e₄, e₅, e₆, e₇)

-- the waits that are left, after a number of turns
module _ (t : List ℕ) (turn last : ℕ) where
  pub rest_end : wait_places ≤ turn → waits_text_from (wait_places - turn) t last ≡ []
  unfolding waits_text_from
  rest_end h = let e : wait_places - turn ≡ 0 = omega arith in rw e

  module _ (l : turn < wait_places) {p : ℕ} (q : p ≡ next_wait t last) where
    pub rest_none : wait_places ≤ p → waits_text_from (wait_places - turn) t last ≡ []
    unfolding waits_text_from
    rest_none h = let e : wait_places - turn ≡ suc (wait_places - (turn + 1)) = omega arith in rw (e, sym q, le-ltb p wait_places h)

    pub rest_more : p < wait_places → (ticket : ℕ) → ticket ≡ ticket_at t p → waits_text_from (wait_places - turn) t last ≡ wait_text_at t p ++ waits_text_from (wait_places - (turn + 1)) t ticket
    unfolding waits_text_from
    rest_more h ticket a = let e : wait_places - turn ≡ suc (wait_places - (turn + 1)) = omega arith in rw (e, sym q, lt-ltb p wait_places h, a)

-- the whole from what was counted
pub snapshot_lines : (t : List ℕ) {next objects waits : ℕ} → next ≡ next_ticket t → objects ≡ object_total t → waits ≡ wait_total t
    → line "next=" next ++ (line "objects=" objects ++ (objects_text_below t object_places ++ (line "waits=" waits ++ waits_text_from wait_places t 0))) ≡ body_of t
unfolding body_of
snapshot_lines t a b c = rw (a, b, c)

-- a writer at the front of a buffer
pub opened : {w : Writer} {buf text : List ℕ} → w.buf.now ≡ buf → w.at ≡ 0 → Room buf 0 text → HasRoom w text
opened b f h = record { fits = rw (b, f) h }

-- the sum of what was written, then its line
module _ (t : List ℕ) {w : Writer} (front : w.at ≡ 0) (room : HasRoom w (snapshot_of t)) where
  summed : HasRoom w (body_of t ++ line "sum=" (byte_sum (body_of t) % word32))
  unfolding snapshot_of
  summed = room

  pub body_room : HasRoom w (body_of t)
  body_room = due_first (body_of t) (line "sum=" (byte_sum (body_of t) % word32)) (due_all summed)

  module _ {v : Writer} (a : Appended w v (body_of t)) where
    pub body_within : v.at ≤ length v.buf.now
    body_within = written_within front body_room a

    module _ {sum : ℕ} (e : sum ≡ byte_sum (take v.at v.buf.now) % word32) where
      pub sum_is : sum ≡ byte_sum (body_of t) % word32
      sum_is = e ∙ ap (λ (x : List ℕ). byte_sum x % word32) (written_front front body_room a)

      pub sum_due : Due w (snapshot_of t) v (line "sum=" sum)
      unfolding snapshot_of
      sum_due = rw sum_is (due_then (body_of t) (line "sum=" (byte_sum (body_of t) % word32)) (due_all summed) a)
