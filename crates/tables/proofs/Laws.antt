-- What the accessors' definitions come to on each way through the code.
use Prim.Native.Nat.{ℕ, zero, suc, ◌+◌, ◌-◌, ◌≤◌, ◌<◌}
use mathlib.Core.Path.{◌≡◌, refl, ap, sym, ◌∙◌}
use mathlib.Core.Bool.{Bool, true, false, ◌||◌, cond}
use mathlib.Core.List.{List, [], ◌∷◌}
use native.Mathlib.Omega.{arith}
use lib.ListN.{length, get_or, set, take, drop, replicate, length-replicate}
use lib.Seq.{take-suc, take-suc-set, sets, sets-eq}
use Rattle.std.proofs.Common.{◌++◌, length-append, length-drop, append_assoc}
use Rattle.std.proofs.lemmas.List.{take_at, get_or-drop}
use Rattle.std.proofs.lemmas.List.Sums.{fold-append}
use borrow.Rule.Slice.PartMut.{put_mid, Post-is}
use lib.Dec.{eqb, ltb, leb}
use native.Mathlib.Numerals.{add-one}
use borrow.Author.Tests.{lt-ltb, le-ltb, le-leb, lt-leb, eq-eqb, ne_eqb, eqb-false, ltb-true, ltb-false, leb-true}
use Rattle.model.proofs.Logic.{by_bool, clash, and_split}
use Rattle.std.specs.List.{fold, list_any}
use lib.Bits.{bit_or}
use Rattle.model.specs.Basics.{member, tabulate}
use Rattle.refine.proofs.Fold.{eqb_flip, fold_stores, fold_clears}
use Rattle.model.specs.Sizes.{object_places, wait_places, max_listed}
use Rattle.model.specs.Layout.{header_size, wait_size, table_length, in_wait}
use Rattle.cells.specs.Objects.{Fields, fields, no_fields, object_cell, fields_at, put_fields, is_handle, named, store}
use Rattle.cells.specs.Fold.{fold_below, or_below, cell_from}
use Rattle.cells.specs.Waits.{next_ticket, wait_cell, count_at, list_of, names_of}
use Rattle.cells.specs.Calls.{put_header, put_list, queue_cells, made_cells}
use Rattle.cells.specs.Validity.{unused_zero, valid_free}
use Rattle.refine.proofs.Shapes.{or_all_zero, all_same}
use Rattle.refine.proofs.Validity.{list_length}

-- a handle or not
module _ (h : ℕ) where
  pub handle_low : is_handle h ≡ true → (0 < h) × (h ≤ object_places)
  handle_low e = let r = and_split (ltb 0 h) (leb h object_places) e in (ltb-true 0 h r.0, leb-true h object_places r.1)

  some_handle : is_handle h ≡ true → (eqb h 0 ≡ false) × (ltb object_places h ≡ false)
  some_handle e = let r = handle_low e in (ne_eqb h 0 (λ z. let w : ⊥ = omega (arith, r.0) in w), le-ltb object_places h r.1)

  no_handle : is_handle h ≡ false → (eqb h 0 || ltb object_places h) ≡ true
  no_handle e = by_bool (eqb h 0) (λ y. rw y) (λ n. rw n (by_bool (ltb object_places h) (λ y. y)
      (λ m. let a = eqb-false h 0 n in let p : ltb 0 h ≡ true = lt-ltb 0 h (omega arith) in let q : leb h object_places ≡ true = le-leb h object_places (ltb-false object_places h m) in clash (let z : is_handle h ≡ true = rw (p, q) in z) e)))

neither : {A : Type 0} (a b : Bool) (x y : A) → (a || b) ≡ true → x ≡ cond a x (cond b x y)
neither true b x y e = refl
neither false true x y e = refl
neither false false x y e = clash e refl

module _ (t : List ℕ) (h : ℕ) {b : Bool} (e : b ≡ is_handle h) where
  pub named_at : b ≡ true → fields_at t (h - 1) ≡ named t h
  unfolding named
  named_at y = let r = some_handle h (sym e ∙ y) in rw (r.0, r.1)

  pub named_none : b ≡ false → no_fields ≡ named t h
  unfolding named
  named_none n = neither (eqb h 0) (ltb object_places h) no_fields (fields_at t (h - 1)) (no_handle h (sym e ∙ n))

  pub store_at : (x : Fields) → b ≡ true → put_fields t (h - 1) x ≡ store t h x
  unfolding store
  store_at x y = let r = some_handle h (sym e ∙ y) in rw (r.0, r.1)

  pub store_none : (x : Fields) → b ≡ false → t ≡ store t h x
  unfolding store
  store_none x n = neither (eqb h 0) (ltb object_places h) t (put_fields t (h - 1) x) (no_handle h (sym e ∙ n))

pub fields_at_lem : (t : List ℕ) (p : ℕ) → fields (get_or t (object_cell p) 0) (get_or t (object_cell p + 1) 0) (get_or t (object_cell p + 2) 0) (get_or t (object_cell p + 3) 0) ≡ fields_at t p
unfolding fields_at
fields_at_lem t p = let z : object_cell p + 0 ≡ object_cell p = omega arith in rw z

-- a list stays within its place
pub count_is : (t : List ℕ) (p : ℕ) {n : ℕ} → n ≡ in_wait t p 5 → n ≤ max_listed → n ≡ count_at t p
unfolding count_at
count_is t p {n} e l = rw (sym e, le-leb n max_listed l)

pub count_none : (t : List ℕ) (p : ℕ) {n : ℕ} → n ≡ in_wait t p 5 → max_listed < n → 0 ≡ count_at t p
unfolding count_at
count_none t p {n} e l = rw (sym e, lt-leb n max_listed l)

cond_le : (n m : ℕ) (b : Bool) → leb n m ≡ b → cond b n 0 ≤ m
cond_le n m true e = leb-true n m e
cond_le n m false e = omega arith

pub count_le : (t : List ℕ) (p : ℕ) → count_at t p ≤ max_listed
unfolding count_at
count_le t p = cond_le (in_wait t p 5) max_listed (leb (in_wait t p 5) max_listed) refl

-- a part from a to a + n
part : (t : List ℕ) (a n m : ℕ) → n ≡ m → take ((a + n) - a) (drop a t) ≡ take m (drop a t)
part t a n m e = let k : (a + n) - a ≡ m = omega arith in rw k

pub list_part : (t : List ℕ) (p : ℕ) {n : ℕ} → n ≡ count_at t p → take ((wait_cell p + header_size + n) - (wait_cell p + header_size)) (drop (wait_cell p + header_size) t) ≡ list_of t p
unfolding list_of
list_part t p {n} e = part t (wait_cell p + header_size) n (count_at t p) e

pub names_part : (t : List ℕ) (p : ℕ) {n : ℕ} → n ≡ count_at t p → take ((wait_cell p + 6 + n + 1) - (wait_cell p + 6)) (drop (wait_cell p + 6) t) ≡ names_of t p
unfolding names_of
names_part t p {n} e = let k : (wait_cell p + 6 + n + 1) - (wait_cell p + 6) ≡ count_at t p + 1 = omega arith in rw k

-- the searches, from p on
pub object_empty : (t : List ℕ) (p : ℕ) (x : Fields) → x ≡ fields_at t p → x.kind ≡ 0 → eqb (fields_at t p).kind 0 ≡ true
object_empty t p x e z = rw (sym e) (eq-eqb x.kind 0 z)

pub object_full : (t : List ℕ) (p : ℕ) (x : Fields) → x ≡ fields_at t p → (x.kind ≡ 0 → ⊥) → eqb (fields_at t p).kind 0 ≡ false
object_full t p x e n = rw (sym e) (ne_eqb x.kind 0 n)

-- zero from a place's cell on
pub unused_zero_lem : (t : List ℕ) (p : ℕ) {n x : ℕ} → n ≡ count_at t p → x ≡ or_below (cell_from t (wait_cell p + (header_size + n))) (max_listed - n) → eqb x 0 ≡ unused_zero t p (count_at t p)
unfolding unused_zero
unused_zero_lem t p {n} {x} e o = rw (o, sym e) (or_all_zero (cell_from t (wait_cell p + (header_size + n))) (max_listed - n)
    ∙ all_same (λ k. eqb (get_or t (wait_cell p + (header_size + n) + k) 0) 0) (λ k. eqb (in_wait t p (header_size + n + k)) 0) (max_listed - n)
    (λ k. let i : wait_cell p + (header_size + n) + k ≡ wait_cell p + (header_size + n + k) = omega arith in rw i))

pub free_zero : (t : List ℕ) (p : ℕ) {x : ℕ} → x ≡ or_below (cell_from t (wait_cell p)) wait_size → eqb x 0 ≡ valid_free t p
unfolding valid_free
free_zero t p o = rw o (or_all_zero (cell_from t (wait_cell p)) wait_size)

-- a wait queued: header, list, next ticket
pub queued_is : (t : List ℕ) (p mode : ℕ) (list : List ℕ) (owner clock alert timeout : ℕ) {ticket : ℕ} {u v : List ℕ} → ticket ≡ next_ticket t → u ≡ put_header t p ticket mode owner clock timeout (length list) alert → v ≡ put_list u p list
    → set v 0 (ticket + 1) ≡ queue_cells t p mode list owner clock alert timeout
unfolding queue_cells
queued_is t p mode list owner clock alert timeout e a b = rw (b, a, e)

-- newly made tables, after the loop
pub made_is : (t : List ℕ) {u : List ℕ} {n : ℕ} → n ≡ table_length → u ≡ fold_below (λ v i. set v i 0) t n → set u 0 1 ≡ made_cells t
unfolding made_cells
made_is t e f = rw (f, e)

-- one more number copied
pub copied : (wide list : List ℕ) (i : ℕ) → take i wide ≡ take i list → i < length wide → i < length list → take (i + 1) (set wide i (get_or list i 0)) ≡ take (i + 1) list
copied wide list i e l m = rw (add-one, take-suc-set wide i (get_or list i 0) l, take-suc list i 0 m, e)

-- a list's own test, in the words of the meaning
pub any_member : (list : List ℕ) (h : ℕ) → list_any (λ k. eqb k h) list ≡ member h list
unfolding member
any_member [] h = refl
any_member (k ∷ list) h = rw (any_member list h, eqb_flip k h)

-- cells or'ed as a list, and one by one
ored_to : (t : List ℕ) (a n : ℕ) → a + n ≤ length t → fold bit_or 0 (take n (drop a t)) ≡ or_below (cell_from t a) n
unfolding fold_below
ored_to t a zero l = refl
ored_to t a (suc n) l = let d : length (drop a t) ≡ length t - a = length-drop a t in let m : n < length (drop a t) = omega (arith, d) in
    rw (take-suc (drop a t) n 0 m, fold-append, get_or-drop a t n 0, ored_to t a n (omega arith))

pub ored : (t : List ℕ) (a n : ℕ) {x : ℕ} → a + n ≤ length t → x ≡ fold bit_or 0 (take ((a + n) - a) (drop a t)) → x ≡ or_below (cell_from t a) n
ored t a n l e = let k : (a + n) - a ≡ n = omega arith in e ∙ rw k (ored_to t a n l)

-- a list put at once, and one by one
put_sets : (t : List ℕ) (a : ℕ) (new list : List ℕ) → a + length list ≤ length t → new ≡ list → put_mid a ((a + length list) - a) t new ≡ sets t a list
put_sets t a new list l e = rw (Post-is a (a + length list) t (omega arith), e) (let k : take a t ++ (list ++ drop (a + length list) t) ≡ sets t a list = sym (sets-eq list t a l ∙ append_assoc (take a t) list (drop (a + length list) t)) in k)

each : (list : List ℕ) → tabulate (length list) (λ i. get_or list i 0) ≡ list
unfolding tabulate
each [] = refl
each (h ∷ list) = ap (λ (l : List ℕ). h ∷ l) (each list)

pub stored : (t : List ℕ) (a : ℕ) (new list : List ℕ) → a + length list ≤ length t → new ≡ list → put_mid a ((a + length list) - a) t new ≡ fold_below (λ u i. set u (a + i) (get_or list i 0)) t (length list)
stored t a new list l e = put_sets t a new list l e ∙ sym (fold_stores t a (length list) (λ i. get_or list i 0) ∙ ap (sets t a) (each list))

pub filled : (t : List ℕ) (a n : ℕ) (new : List ℕ) → a + n ≤ length t → new ≡ replicate n 0 → put_mid a ((a + n) - a) t new ≡ fold_below (λ u i. set u (a + i) 0) t n
filled t a n new l e = let z : length (replicate {A = ℕ} n 0) ≡ n = length-replicate n 0 in
    let m : a + length (replicate {A = ℕ} n 0) ≤ length t = rw z l in
    let k : put_mid a ((a + length (replicate {A = ℕ} n 0)) - a) t new ≡ sets t a (replicate n 0) = put_sets t a new (replicate n 0) m e in
    rw z at k ∙ sym (fold_clears t a n)

-- a list put at the front of an array
pub front_length : (list new rest : List ℕ) → new ≡ list → length list ≤ length rest → length (new ++ drop (length list) rest) ≡ length rest
front_length list new rest e l = rw (e, length-append, length-drop) (omega arith)

pub front_taken : (list new rest : List ℕ) (n : ℕ) → new ≡ list → n ≡ length list → take n (new ++ drop (length list) rest) ≡ list
front_taken list new rest n e q = rw (e, q) (take_at list (drop (length list) rest) _ refl)

pub list_short : (t : List ℕ) (p : ℕ) {list : List ℕ} → length t ≡ table_length → p < wait_places → list ≡ list_of t p → length list ≤ max_listed
list_short t p l h e = omega (arith, ap length e ∙ list_length t l p h, count_le t p)
