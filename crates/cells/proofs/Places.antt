-- The laws of places: what was put is read, other places and cells keep their numbers, the length stays.
use Prim.Native.Nat.{ℕ, ◌+◌, ◌-◌, ◌*◌, ◌<◌, ◌≤◌}
use mathlib.Core.Path.{◌≡◌}
use mathlib.Core.List.{List}
use mathlib.Core.Logic.{◌≢◌}
use native.Mathlib.Omega.{arith}
use native.Mathlib.Nat.{pos_of_ne-zero}
use lib.ListN.{length, get_or, set, length-set}
use lib.Seq.{get_or-set_same, get_or-set_other}
use borrow.Author.Tests.{le-ltb, ne_eqb}
use Rattle.model.specs.Sizes.{object_places}
use Rattle.model.specs.Layout.{waits_base, table_length, in_wait}
use Rattle.cells.specs.Objects.{Fields, object_cell, fields_at, put_fields, named, store}

pub put_length : (t : List ℕ) (p : ℕ) (x : Fields) → length (put_fields t p x) ≡ length t
unfolding put_fields
put_length t p x = simp length-set

-- a cell that is none of the place's
pub put_cell : (t : List ℕ) (p : ℕ) (x : Fields) (j : ℕ) → j ≢ object_cell p → j ≢ object_cell p + 1 → j ≢ object_cell p + 2 → j ≢ object_cell p + 3 → get_or (put_fields t p x) j 0 ≡ get_or t j 0
unfolding put_fields
put_cell t p x j h0 h1 h2 h3 = simp get_or-set_other

pub get_put : (t : List ℕ) (p : ℕ) (x : Fields) → object_cell p + 3 < length t → fields_at (put_fields t p x) p ≡ x
unfolding fields_at put_fields
get_put t p x h = let c : ℕ = object_cell p in let z : c + 0 ≡ c = omega arith in
    let n01 : c ≢ c + 1 = omega arith in let n02 : c ≢ c + 2 = omega arith in let n03 : c ≢ c + 3 = omega arith in
    let n12 : c + 1 ≢ c + 2 = omega arith in let n13 : c + 1 ≢ c + 3 = omega arith in let n23 : c + 2 ≢ c + 3 = omega arith in
    let t1 : List ℕ = set t c x.kind in let t2 : List ℕ = set t1 (c + 1) x.count in let t3 : List ℕ = set t2 (c + 2) x.owner in
    let l0 : c < length t = omega arith in let l1 : c + 1 < length t1 = simp length-set (omega arith) in
    let l2 : c + 2 < length t2 = simp length-set (omega arith) in let l3 : c + 3 < length t3 = simp length-set (omega arith) in
    simp (z, get_or-set_other, get_or-set_same)

pub get_put_other : (t : List ℕ) (p q : ℕ) (x : Fields) → q ≢ p → fields_at (put_fields t p x) q ≡ fields_at t q
unfolding fields_at
get_put_other t p q x h = simp (
  put_cell t p x (object_cell q + 0) (omega arith) (omega arith) (omega arith) (omega arith),
  put_cell t p x (object_cell q + 1) (omega arith) (omega arith) (omega arith) (omega arith),
  put_cell t p x (object_cell q + 2) (omega arith) (omega arith) (omega arith) (omega arith),
  put_cell t p x (object_cell q + 3) (omega arith) (omega arith) (omega arith) (omega arith),
)

-- an object put keeps every cell of the waits
pub put_wait : (t : List ℕ) (p : ℕ) (x : Fields) (q j : ℕ) → p < object_places → in_wait (put_fields t p x) q j ≡ in_wait t q j
put_wait t p x q j h = put_cell t p x (waits_base + _ * q + j) (omega arith) (omega arith) (omega arith) (omega arith)

-- by handle
other_place : (h k : ℕ) → 0 < h → 0 < k → k ≢ h → k - 1 ≢ h - 1
other_place h k a b d e = d (let q : k ≡ h = omega arith in q)

module _ (t : List ℕ) (h : ℕ) (x : Fields) (n : h ≢ 0) (b : h ≤ object_places) where
  pub get_store : length t ≡ table_length → named (store t h x) h ≡ x
  unfolding named store
  get_store l = rw (ne_eqb h 0 n, le-ltb object_places h b) (get_put t (h - 1) x (omega arith))

  pub get_store_other : (k : ℕ) → k ≢ h → k ≢ 0 → k ≤ object_places → named (store t h x) k ≡ named t k
  unfolding named store
  get_store_other k d m c = rw (ne_eqb h 0 n, le-ltb object_places h b, ne_eqb k 0 m, le-ltb object_places k c) (get_put_other t (h - 1) (k - 1) x (other_place h k (pos_of_ne-zero n) (pos_of_ne-zero m) d))
