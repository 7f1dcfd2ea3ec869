-- Object places: what stands there, what a store makes of the state, and the rules of one object.
use mathlib.Core.Path.{◌≡◌, refl, ap, sym, ◌∙◌}
use mathlib.Core.Bool.{Bool, true, false, not, ◌||◌, or-false, or_assoc}
use mathlib.Core.List.{List, [], ◌∷◌}
use Prim.Native.Nat.{ℕ, zero, suc, pred, ◌+◌, ◌-◌, ◌≤◌, ◌<◌}
use native.Mathlib.Omega.{arith}
use native.Mathlib.Numerals.{add-one}
use lib.ListN.{length, get_or, get_or-eq_default}
use lib.Seq.{set_out}
use lib.Dec.{eqb, ltb, eqb-suc-zero}
use borrow.Author.Tests.{ltb-true, ltb-false, eqb-true, eqb-false, ne_eqb}
use Rattle.model.specs.Basics.{bit, member, has_repeat}
use Rattle.model.specs.Layout.{object_cells, encode}
use Rattle.model.specs.Sizes.{object_places, mutex_ceiling}
use Rattle.model.specs.Objects.{Object, empty, semaphore, mutex, event, by_kind, occupied, is_event, abandoned, signaled, acquired, cleared}
use Rattle.model.specs.Waits.{State, with_objects, object_at, put_at, put_object, acquire_each, any_abandoned}
use Rattle.model.proofs.Logic.{by_bool, clash, ◌implies◌, and_split, or_left, or_right, or_split, eqb_same}
use Rattle.model.proofs.Acquiring.{at_put_other}
use Rattle.cells.specs.Attempt.{acquire_at, signaled_at, abandoned_at, acquire_first, abandoned_first}
use Rattle.model.proofs.Valid.{length_put_at}
use Rattle.cells.specs.Objects.{object_cell, Fields, fields, no_fields, fields_at, put_fields, named, store, signaled_fields, acquired_fields, abandoned_fields, switch_fields}
use Rattle.model.proofs.Cells.{read_object_lem, write_object}
use Rattle.cells.specs.Fold.{fold_below}
use Rattle.cells.specs.Validity.{occupied_at, event_at}
use Rattle.refine.proofs.Fold.{fold_first}

-- an object as four numbers
abbrev pub fields_of : Object → Fields
fields_of empty = no_fields
fields_of (semaphore c m) = fields 1 c 0 m
fields_of (mutex o c a) = fields 2 c o (bit a)
fields_of (event s m) = fields 3 (bit s) 0 (bit m)

abbrev listed : Fields → List ℕ
listed x = x.kind ∷ x.count ∷ x.owner ∷ x.attribute ∷ []

fields_cells : (x : Object) → listed (fields_of x) ≡ object_cells x
unfolding object_cells
fields_cells empty = refl
fields_cells (semaphore c m) = refl
fields_cells (mutex o c a) = refl
fields_cells (event s m) = refl

pub fields_at_lem : (s : State) (i : ℕ) → i < length s.objects → fields_at (encode s) i ≡ fields_of (object_at s.objects (suc i))
unfolding fields_at
fields_at_lem s i h = let x : Object = object_at s.objects (suc i) in
    rw (read_object_lem s i 0 h (omega arith), read_object_lem s i 1 h (omega arith), read_object_lem s i 2 h (omega arith), read_object_lem s i 3 h (omega arith), ← (fields_cells x))

pub put_fields_lem : (s : State) (i : ℕ) (x : Object) → i < length s.objects → put_fields (encode s) i (fields_of x) ≡ encode (put_object s (suc i) x)
unfolding put_fields
put_fields_lem s i x h =
    let e1 : object_cell i + 1 ≡ suc (object_cell i) = omega arith in let e2 : object_cell i + 2 ≡ suc (suc (object_cell i)) = omega arith in let e3 : object_cell i + 3 ≡ suc (suc (suc (object_cell i))) = omega arith in
    rw (write_object s i x h, ← (fields_cells x), e1, e2, e3)

-- by handle, whatever the number
module _ (s : State) (full : length s.objects ≡ object_places) where
  pub named_is : (h : ℕ) → named (encode s) h ≡ fields_of (object_at s.objects h)
  unfolding named
  named_is zero = refl
  named_is (suc i) = by_bool (ltb object_places (suc i))
      (λ t. let l : object_places < suc i = ltb-true _ _ t in rw (eqb-suc-zero i, t, get_or-eq_default s.objects empty {n = i} (omega arith)))
      (λ f. let l : suc i ≤ object_places = ltb-false _ _ f in let m : suc i - 1 ≡ i = omega arith in rw (eqb-suc-zero i, f, m) (fields_at_lem s i (omega arith)))

  pub store_is : (h : ℕ) (x : Object) → store (encode s) h (fields_of x) ≡ encode (put_object s h x)
  unfolding store
  store_is zero x = refl
  store_is (suc i) x = by_bool (ltb object_places (suc i))
      (λ t. let l : object_places < suc i = ltb-true _ _ t in rw (eqb-suc-zero i, t, set_out s.objects i x (omega arith)))
      (λ f. let l : suc i ≤ object_places = ltb-false _ _ f in let m : suc i - 1 ≡ i = omega arith in rw (eqb-suc-zero i, f, m) (put_fields_lem s i x (omega arith)))

-- flags
bit_above : (b : Bool) → ltb 0 (bit b) ≡ b
bit_above true = refl
bit_above false = refl

pub bit_not : (b : Bool) → eqb (bit b) 0 ≡ not b
bit_not true = refl
bit_not false = refl

pub bit_flag : (n : ℕ) (b : Bool) → n ≡ bit b → ltb 0 n ≡ b
bit_flag n b e = rw e (bit_above b)

signaled_fields_lem : (o : ℕ) (x : Object) → signaled_fields o (fields_of x) ≡ signaled o x
unfolding signaled_fields
signaled_fields_lem o empty = refl
signaled_fields_lem o (semaphore c m) = refl
signaled_fields_lem o (mutex w c a) = refl
signaled_fields_lem o (event s m) = bit_above s

abandoned_fields_lem : (x : Object) → abandoned_fields (fields_of x) ≡ abandoned x
unfolding abandoned_fields
abandoned_fields_lem empty = refl
abandoned_fields_lem (semaphore c m) = refl
abandoned_fields_lem (mutex w c a) = bit_above a
abandoned_fields_lem (event s m) = refl

-- a mutex below its ceiling: acquiring it stays in its range
abbrev pub acquirable : Object → Bool
acquirable x = by_kind x true (λ c m. true) (λ w c a. ltb c mutex_ceiling) (λ s m. true)

pub signaled_acquirable : (o : ℕ) (x : Object) → signaled o x implies acquirable x
signaled_acquirable o empty e = refl
signaled_acquirable o (semaphore c m) e = refl
signaled_acquirable o (mutex w c a) e = (and_split (eqb w 0 || eqb w o) (ltb c mutex_ceiling) e).1
signaled_acquirable o (event s m) e = refl

acquired_fields_lem : (o : ℕ) (x : Object) → acquirable x ≡ true → acquired_fields o (fields_of x) ≡ fields_of (acquired o x)
unfolding acquired_fields
acquired_fields_lem o empty e = refl
acquired_fields_lem o (semaphore c m) e = let q : c - 1 ≡ pred c = omega arith in rw q
acquired_fields_lem o (mutex w c a) e = rw (e, add-one)
acquired_fields_lem o (event s true) e = refl
acquired_fields_lem o (event s false) e = refl

pub cleared_fields : (x : Object) → (switch_fields 0 (fields_of x)).next ≡ fields_of (cleared x)
unfolding switch_fields
cleared_fields empty = refl
cleared_fields (semaphore c m) = refl
cleared_fields (mutex o c a) = refl
cleared_fields (event v m) = refl

module _ (s : State) (full : length s.objects ≡ object_places) where
  pub signaled_at_lem : (o h : ℕ) → signaled_at (encode s) o h ≡ signaled o (object_at s.objects h)
  unfolding signaled_at
  signaled_at_lem o h = rw (named_is s full h) (signaled_fields_lem o (object_at s.objects h))

  pub abandoned_at_lem : (h : ℕ) → abandoned_at (encode s) h ≡ abandoned (object_at s.objects h)
  unfolding abandoned_at
  abandoned_at_lem h = rw (named_is s full h) (abandoned_fields_lem (object_at s.objects h))

  pub acquire_at_lem : (o h : ℕ) → acquirable (object_at s.objects h) ≡ true → acquire_at (encode s) o h ≡ encode (with_objects s (put_at s.objects h (acquired o (object_at s.objects h))))
  unfolding acquire_at
  acquire_at_lem o h e = rw (named_is s full h, acquired_fields_lem o (object_at s.objects h) e) (store_is s full h (acquired o (object_at s.objects h)))

  occupied_kind : (x : Object) → ltb 0 (fields_of x).kind ≡ occupied x
  occupied_kind empty = refl
  occupied_kind (semaphore c m) = refl
  occupied_kind (mutex o c a) = refl
  occupied_kind (event v m) = refl

  pub occupied_at_lem : (h : ℕ) → occupied_at (encode s) h ≡ occupied (object_at s.objects h)
  unfolding occupied_at
  occupied_at_lem h = rw (named_is s full h) (occupied_kind (object_at s.objects h))

  event_kind : (x : Object) → eqb (fields_of x).kind 3 ≡ is_event x
  event_kind empty = refl
  event_kind (semaphore c m) = refl
  event_kind (mutex o c a) = refl
  event_kind (event v m) = refl

  pub event_at_lem : (h : ℕ) → event_at (encode s) h ≡ is_event (object_at s.objects h)
  unfolding event_at
  event_at_lem h = rw (named_is s full h) (event_kind (object_at s.objects h))

pub kind_empty : (x : Object) → eqb (fields_of x).kind 0 ≡ not (occupied x)
kind_empty empty = refl
kind_empty (semaphore c m) = refl
kind_empty (mutex o c a) = refl
kind_empty (event v m) = refl

-- ACQUIRING A LIST one after another, no handle twice
acquire_first_more : (t : List ℕ) (o : ℕ) (h : ℕ) (hs : List ℕ) (n : ℕ) → acquire_first t o (h ∷ hs) (suc n) ≡ acquire_first (acquire_at t o h) o hs n
unfolding acquire_first
acquire_first_more t o h hs n = fold_first (λ u i. acquire_at u o (get_or (h ∷ hs) i 0)) t n

abandoned_first_more : (t : List ℕ) (o h : ℕ) (hs : List ℕ) (n : ℕ) → abandoned_first t o (h ∷ hs) (suc n) ≡ (abandoned_at t h || abandoned_first (acquire_at t o h) o hs n)
unfolding abandoned_first acquire_first fold_below
abandoned_first_more t o h hs zero = sym (or-false (abandoned_at t h))
abandoned_first_more t o h hs (suc n) = ap (λ (b : Bool). b || abandoned_at (acquire_first t o (h ∷ hs) (suc n)) (get_or hs n 0)) (abandoned_first_more t o h hs n)
    ∙ or_assoc (abandoned_at t h) (abandoned_first (acquire_at t o h) o hs n) (abandoned_at (acquire_first t o (h ∷ hs) (suc n)) (get_or hs n 0))
    ∙ ap (λ (u : List ℕ). abandoned_at t h || (abandoned_first (acquire_at t o h) o hs n || abandoned_at u (get_or hs n 0))) (acquire_first_more t o h hs n)

module _ (s : State) (o : ℕ) where
  pub acquire_list : (hs : List ℕ) (os : List Object) → length os ≡ object_places → has_repeat hs ≡ false → ((h : ℕ) → member h hs implies acquirable (object_at os h))
      → acquire_first (encode (with_objects s os)) o hs (length hs) ≡ encode (with_objects s (acquire_each o os hs))
  unfolding acquire_each member has_repeat acquire_first fold_below
  acquire_list [] os n d r = refl
  acquire_list (h ∷ hs) os n d r = let p = or_split (member h hs) (has_repeat hs) d in
      acquire_first_more (encode (with_objects s os)) o h hs (length hs)
      ∙ rw (acquire_at_lem (with_objects s os) n o h (r h (or_left (eqb h h) (member h hs) (eqb_same h))))
      (acquire_list hs (put_at os h (acquired o (object_at os h))) (length_put_at os h (acquired o (object_at os h)) ∙ n) p.1
      (λ j i. let q : eqb j h ≡ false = by_bool (eqb j h) (λ t. clash i (rw (eqb-true j h t) p.0)) (λ f. f) in
      rw (at_put_other os h (acquired o (object_at os h)) j q) (r j (or_right (eqb j h) (member j hs) i))))

  -- objects that are not acquired are abandoned or not as before
  any_other : (os : List Object) (h : ℕ) (hs : List ℕ) → member h hs ≡ false → any_abandoned (put_at os h (acquired o (object_at os h))) hs ≡ any_abandoned os hs
  unfolding any_abandoned member
  any_other os h [] n = refl
  any_other os h (k ∷ ks) n = let r = or_split (eqb h k) (member h ks) n in
      let d : eqb k h ≡ false = ne_eqb k h (λ e. eqb-false h k r.0 (sym e)) in
      rw (at_put_other os h (acquired o (object_at os h)) k d, any_other os h ks r.1)

  pub abandoned_list : (hs : List ℕ) (os : List Object) → length os ≡ object_places → has_repeat hs ≡ false → ((h : ℕ) → member h hs implies acquirable (object_at os h))
      → abandoned_first (encode (with_objects s os)) o hs (length hs) ≡ any_abandoned os hs
  unfolding any_abandoned member has_repeat abandoned_first fold_below
  abandoned_list [] os n d r = refl
  abandoned_list (h ∷ hs) os n d r = let p = or_split (member h hs) (has_repeat hs) d in
      abandoned_first_more (encode (with_objects s os)) o h hs (length hs)
      ∙ rw (abandoned_at_lem (with_objects s os) n h, acquire_at_lem (with_objects s os) n o h (r h (or_left (eqb h h) (member h hs) (eqb_same h))))
      (ap (λ (b : Bool). abandoned (object_at os h) || b)
      (abandoned_list hs (put_at os h (acquired o (object_at os h))) (length_put_at os h (acquired o (object_at os h)) ∙ n) p.1
      (λ j i. let q : eqb j h ≡ false = by_bool (eqb j h) (λ t. clash i (rw (eqb-true j h t) p.0)) (λ f. f) in
      rw (at_put_other os h (acquired o (object_at os h)) j q) (r j (or_right (eqb j h) (member j hs) i)))
      ∙ any_other os h hs p.0))
