-- The laws of the layout: what stands in a cell, what a store makes of the state, and that valid states are what their
-- tables show.
use mathlib.Core.Path.{◌≡◌, refl, ap, sym, ◌∙◌, subst}
use mathlib.Core.Bool.{Bool, true, false, not, cond}
use mathlib.Core.List.{List, [], ◌∷◌, ◌++◌, append_assoc}
use mathlib.Core.Logic.{inl, inr, ⊎_elim}
use Prim.Native.Nat.{ℕ, zero, suc, ◌+◌, ◌-◌, ◌*◌, ◌≤◌, ◌<◌}
use native.Mathlib.Omega.{arith}
use native.Mathlib.Nat.{mul-suc, mul-zero, zero-add, mul-le-mul_left, suc-add, add-suc}
use lib.ListN.{length, get_or, set, replicate, take, drop, length-append, get_or-append, length-replicate, length-set, get_or-replicate}
use lib.Seq.{sets, sets-eq, get_or-append-add, take-append-add, drop-append-add, drop_at, set-append_left, get_or-take, length-take-le}
use lib.Dec.{eqb}
use borrow.Author.Tests.{ltb-false, eqb-true, eqb-false, not-true}
use Rattle.model.specs.Basics.{bit, tabulate, joined, overwrite}
use Rattle.model.specs.Layout.{object_size, header_size, wait_size, waits_base, table_length, object_cells, mode_cell, wait_cells, encode, object_of, in_object, in_wait, wait_of, view, distinct_tickets}
use Rattle.model.specs.Sizes.{object_places, wait_places, max_listed}
use Rattle.model.specs.Objects.{Object, empty, semaphore, mutex, event}
use Rattle.model.specs.Notions.{◌is_in◌}
use Rattle.model.specs.Waits.{Mode, any, all, Wait, WaitPlace, free, waiting, State, with_objects, with_waits, object_at, put_object, dequeue, any_waiting}
use Rattle.model.proofs.Logic.{by_bool, differ, and_split, eqb_same, passed}
use Rattle.model.proofs.Valid.{Valid, waiting_none}

-- the first cell of an object place, of a wait place
abbrev pub object_cell : ℕ → ℕ
object_cell p = 1 + object_size * p

abbrev pub wait_cell : ℕ → ℕ
wait_cell p = waits_base + wait_size * p

-- one law for blocks of any size k
module _ {A : Type 0} (f : A → List ℕ) (k : ℕ) (size : (x : A) → length (f x) ≡ k) where
  pub joined_length : (xs : List A) → length (joined f xs) ≡ k * length xs
  unfolding joined
  joined_length [] = sym (mul-zero k)
  joined_length (x ∷ xs) = length-append (f x) (joined f xs) ∙ (let ih = joined_length xs in let z = size x in let m = mul-suc k (length xs) in omega arith)

  -- cell j of block i
  pub joined_get : (xs : List A) (i j : ℕ) (d : A) → i < length xs → j < k → get_or (joined f xs) (k * i + j) 0 ≡ get_or (f (get_or xs i d)) j 0
  unfolding joined
  joined_get [] i j d h l = absurd (let z : ⊥ = omega arith in z)
  joined_get (x ∷ xs) zero j d h l = let z = size x in rw (mul-zero k, zero-add) (get_or-append (f x) (joined f xs) 0 j (omega arith))
  joined_get (x ∷ xs) (suc i) j d h l =
      let e : k * suc i + j ≡ length (f x) + (k * i + j) = (let z = size x in let m = mul-suc k i in omega arith) in
      rw e (get_or-append-add (f x) (joined f xs) (k * i + j) 0 ∙ joined_get xs i j d (omega arith) l)

  joined_set_eq : (xs : List A) (i : ℕ) (a : A) → i < length xs → joined f (set xs i a) ≡ take (k * i) (joined f xs) ++ f a ++ drop (k * i + k) (joined f xs)
  unfolding joined
  joined_set_eq [] i a h = absurd (let z : ⊥ = omega arith in z)
  joined_set_eq (x ∷ xs) zero a h = rw (mul-zero k, zero-add, drop_at (f x) (joined f xs) k (size x))
  joined_set_eq (x ∷ xs) (suc i) a h =
      let e : k * suc i ≡ length (f x) + k * i = (let z = size x in let m = mul-suc k i in omega arith) in
      let e₂ : length (f x) + k * i + k ≡ length (f x) + (k * i + k) = omega arith in
      rw (e, e₂, take-append-add (f x) (joined f xs) (k * i), drop-append-add (f x) (joined f xs) (k * i + k))
      (ap (λ (l : List ℕ). f x ++ l) (joined_set_eq xs i a (omega arith)) ∙ sym (simp append_assoc))

  -- storing block i cell by cell
  pub joined_set : (xs : List A) (i : ℕ) (a : A) → i < length xs → joined f (set xs i a) ≡ sets (joined f xs) (k * i) (f a)
  joined_set xs i a h =
      let z : length (f a) ≡ k = size a in let n : length (joined f xs) ≡ k * length xs = joined_length xs in
      let m : k * suc i ≡ k * i + k = mul-suc k i in
      let o : k * suc i ≤ k * length xs = mul-le-mul_left k h in
      let fits : k * i + length (f a) ≤ length (joined f xs) = omega arith in
      joined_set_eq xs i a h ∙ sym (sets-eq (f a) (joined f xs) (k * i) fits ∙ ap (λ (y : ℕ). take (k * i) (joined f xs) ++ f a ++ drop (k * i + y) (joined f xs)) z)

pub object_cells_size : (x : Object) → length (object_cells x) ≡ 4
unfolding object_cells
object_cells_size empty = refl
object_cells_size (semaphore c m) = refl
object_cells_size (mutex o c a) = refl
object_cells_size (event s m) = refl

-- a run of stores that ends within the first part
pub sets_append : (vs l r : List ℕ) (i : ℕ) → i + length vs ≤ length l → sets (l ++ r) i vs ≡ sets l i vs ++ r
sets_append [] l r i h = refl
sets_append (v ∷ vs) l r i h = let z : i < length l = omega arith in rw (set-append_left l r i v z) (sets_append vs (set l i v) r (suc i) (rw (length-set l i v) (omega arith)))

-- READING: what the code finds at cell j of the object place of handle h, is cell j of the object of handle h
pub read_object_lem : (s : State) (i j : ℕ) → i < length s.objects → j < object_size → get_or (encode s) (object_cell i + j) 0 ≡ get_or (object_cells (object_at s.objects (suc i))) j 0
unfolding encode
read_object_lem s i j h l =
    let n : length (joined object_cells s.objects) ≡ object_size * length s.objects = joined_length object_cells object_size object_cells_size s.objects in
    let o : object_size * i + j < length (joined object_cells s.objects) = omega arith in
    let e : object_cell i + j ≡ suc (object_size * i + j) = omega arith in
    rw e (get_or-append (joined object_cells s.objects) (joined wait_cells s.waits) 0 (object_size * i + j) o
    ∙ joined_get object_cells object_size object_cells_size s.objects i j empty h l)

-- a run of stores behind the first cell
pub sets_behind : (vs l : List ℕ) (x i : ℕ) → sets (x ∷ l) (suc i) vs ≡ x ∷ sets l i vs
sets_behind [] l x i = refl
sets_behind (v ∷ vs) l x i = sets_behind vs (set l i v) x (suc i)

-- WRITING: the tables of the state with a new object at handle h are the tables with its four cells stored
pub write_object : (s : State) (i : ℕ) (x : Object) → i < length s.objects → encode (put_object s (suc i) x) ≡ sets (encode s) (object_cell i) (object_cells x)
unfolding encode
write_object s i x h =
    let n : length (joined object_cells s.objects) ≡ object_size * length s.objects = joined_length object_cells object_size object_cells_size s.objects in
    let z : length (object_cells x) ≡ object_size = object_cells_size x in
    let o : object_size * i + length (object_cells x) ≤ length (joined object_cells s.objects) = omega arith in
    let e : object_cell i ≡ suc (object_size * i) = omega arith in
    rw (e, joined_set object_cells object_size object_cells_size s.objects i x h) (sym (sets_behind (object_cells x) (joined object_cells s.objects ++ joined wait_cells s.waits) s.next (object_size * i)
    ∙ ap (λ (l : List ℕ). s.next ∷ l) (sets_append (object_cells x) (joined object_cells s.objects) (joined wait_cells s.waits) (object_size * i) o)))

-- as `view` reads a flag, an object place, a wait place
abbrev pub flag : ℕ → Bool
flag n = not (eqb n 0)

abbrev pub view_object : List ℕ → ℕ → Object
view_object t p = object_of (in_object t p 0) (in_object t p 1) (in_object t p 2) (in_object t p 3)

abbrev pub view_wait : List ℕ → ℕ → WaitPlace
view_wait t p = wait_of (in_wait t p)

pub tabulate_is : {A : Type 0} (d : A) (xs : List A) (n : ℕ) (f : ℕ → A) → length xs ≡ n → ((i : ℕ) → i < length xs → f i ≡ get_or xs i d) → tabulate n f ≡ xs
unfolding tabulate
tabulate_is d [] zero f l h = refl
tabulate_is d [] (suc n) f l h = absurd (let z : ⊥ = omega arith in z)
tabulate_is d (x ∷ xs) zero f l h = absurd (let z : ⊥ = omega arith in z)
tabulate_is d (x ∷ xs) (suc n) f l h =
    let ih : tabulate n (λ i. f (suc i)) ≡ xs = tabulate_is d xs n (λ i. f (suc i)) (omega arith) (λ i k. h (suc i) (omega arith)) in
    rw (h 0 (omega arith), ih)

bit_flag : (b : Bool) → flag (bit b) ≡ b
bit_flag true = refl
bit_flag false = refl

object_of_cells : (x : Object) → object_of (get_or (object_cells x) 0 0) (get_or (object_cells x) 1 0) (get_or (object_cells x) 2 0) (get_or (object_cells x) 3 0) ≡ x
unfolding object_cells
object_of_cells empty = refl
object_of_cells (semaphore c m) = refl
object_of_cells (mutex o c a) = ap (λ (b : Bool). mutex o c b) (bit_flag a)
object_of_cells (event s m) = rw (bit_flag s, bit_flag m)

view_object_lem : (s : State) (i : ℕ) → i < length s.objects → view_object (encode s) i ≡ get_or s.objects i empty
view_object_lem s i h = rw (read_object_lem s i 0 h (omega arith), read_object_lem s i 1 h (omega arith), read_object_lem s i 2 h (omega arith), read_object_lem s i 3 h (omega arith)) (object_of_cells (get_or s.objects i empty))

list_size : (l : List ℕ) → length (take max_listed (l ++ replicate max_listed 0)) ≡ max_listed
list_size l = length-take-le max_listed (l ++ replicate max_listed 0) (rw (length-append l (replicate max_listed 0), length-replicate {A = ℕ} max_listed 0) (omega arith))

pub wait_cells_size : (x : WaitPlace) → length (wait_cells x) ≡ wait_size
unfolding wait_cells
wait_cells_size free = length-replicate {A = ℕ} wait_size 0
wait_cells_size (waiting w) = let z = list_size w.list in omega arith

pub read_wait_lem : (s : State) (i j : ℕ) → length s.objects ≡ object_places → i < length s.waits → j < wait_size → in_wait (encode s) i j ≡ get_or (wait_cells (get_or s.waits i free)) j 0
unfolding encode
read_wait_lem s i j p h l =
    let a : length (joined object_cells s.objects) ≡ object_size * object_places = joined_length object_cells object_size object_cells_size s.objects ∙ ap (λ (n : ℕ). object_size * n) p in
    let e : wait_cell i + j ≡ suc (length (joined object_cells s.objects) + (wait_size * i + j)) = omega arith in
    rw e (get_or-append-add (joined object_cells s.objects) (joined wait_cells s.waits) (wait_size * i + j) 0
    ∙ joined_get wait_cells wait_size wait_cells_size s.waits i j free h l)

pub encode_length : (s : State) → length s.objects ≡ object_places → length s.waits ≡ wait_places → length (encode s) ≡ table_length
unfolding encode
encode_length s p q =
    let a : length (joined object_cells s.objects) ≡ object_size * object_places = joined_length object_cells object_size object_cells_size s.objects ∙ ap (λ (n : ℕ). object_size * n) p in
    let b : length (joined wait_cells s.waits) ≡ wait_size * wait_places = joined_length wait_cells wait_size wait_cells_size s.waits ∙ ap (λ (n : ℕ). wait_size * n) q in
    rw (length-append (joined object_cells s.objects) (joined wait_cells s.waits)) (omega arith)

pub read_next : (s : State) → get_or (encode s) 0 0 ≡ s.next
unfolding encode
read_next s = refl

abbrev PlaceOk : WaitPlace → Type 0
PlaceOk free = Unit {0}
PlaceOk (waiting w) = (0 < w.ticket) × (length w.list ≤ max_listed)

mode_cell_lem : (m : Mode) → cond (eqb (mode_cell m) 0) any all ≡ m
mode_cell_lem any = refl
mode_cell_lem all = refl

wait_of_cells : (x : WaitPlace) → PlaceOk x → (f : ℕ → ℕ) → ((j : ℕ) → j < wait_size → f j ≡ get_or (wait_cells x) j 0) → wait_of f ≡ x
unfolding wait_cells
wait_of_cells free k f h = let e : f 0 ≡ 0 = h 0 (omega arith) in rw e
wait_of_cells (waiting w) k f h =
    let e0 : f 0 ≡ w.ticket = h 0 (omega arith) in let e1 : f 1 ≡ mode_cell w.mode = h 1 (omega arith) in let e2 : f 2 ≡ w.owner = h 2 (omega arith) in
    let e3 : f 3 ≡ w.clock = h 3 (omega arith) in let e4 : f 4 ≡ w.timeout = h 4 (omega arith) in let e5 : f 5 ≡ length w.list = h 5 (omega arith) in
    let e6 : f 6 ≡ w.alert = h 6 (omega arith) in
    let z : eqb w.ticket 0 ≡ false = by_bool (eqb w.ticket 0) (λ t. absurd (let q : w.ticket ≡ 0 = eqb-true _ _ t in let p : 0 < w.ticket = k.0 in let y : ⊥ = omega arith in y)) (λ n. n) in
    let l : tabulate (length w.list) (λ j. f (header_size + j)) ≡ w.list = tabulate_is 0 w.list (length w.list) (λ j. f (header_size + j)) refl
    (λ j i. let b : length w.list ≤ max_listed = k.1 in h (header_size + j) (omega arith)
    ∙ get_or-append-add (w.ticket ∷ mode_cell w.mode ∷ w.owner ∷ w.clock ∷ w.timeout ∷ length w.list ∷ w.alert ∷ []) (take max_listed (w.list ++ replicate max_listed 0)) j 0
    ∙ get_or-take max_listed (w.list ++ replicate max_listed 0) j 0 (omega arith) ∙ get_or-append w.list (replicate max_listed 0) 0 j i) in
    rw (e0, e1, e2, e3, e4, e5, e6, z, l, mode_cell_lem w.mode)

-- what cells can show of a state, valid or not
pub record Shaped (s : State) : Type 0 where
  pub places : length s.objects ≡ object_places
  pub slots : length s.waits ≡ wait_places
  pub waits : (w : Wait) → w is_in s.waits → (0 < w.ticket) × (length w.list ≤ max_listed)

pub valid_shaped : (s : State) → Valid s → Shaped s
valid_shaped s g = record {
  places = g.places;
  slots = g.slots;
  waits = λ w m. ((g.tickets w m).0, (let (t0, (t1, (t2, (t3, (t4, (t5, r)))))) = passed _ (g.waits w m) in ltb-false max_listed _ (not-true _ t5)));
}

shaped_ok : (s : State) → Shaped s → (i : ℕ) → PlaceOk (get_or s.waits i free)
shaped_ok s g i = go s.waits i g.waits
  where
    go : (ws : List WaitPlace) (i : ℕ) → ((w : Wait) → w is_in ws → (0 < w.ticket) × (length w.list ≤ max_listed)) → PlaceOk (get_or ws i free)
    go [] i h = tt
    go (free ∷ ws) zero h = tt
    go (waiting w ∷ ws) zero h = h w (inl refl)
    go (free ∷ ws) (suc i) h = go ws i h
    go (waiting v ∷ ws) (suc i) h = go ws i (λ w m. h w (inr m))

-- SHAPED STATES ARE WHAT THEIR TABLES SHOW
pub view_objects : (s : State) → length s.objects ≡ object_places → (view (encode s)).objects ≡ s.objects
unfolding view
view_objects s full = tabulate_is empty s.objects object_places (view_object (encode s)) full (view_object_lem s)

pub view_shaped : (s : State) → Shaped s → view (encode s) ≡ s
unfolding view
view_shaped s g =
    let o : tabulate object_places (view_object (encode s)) ≡ s.objects = view_objects s g.places in
    let w : tabulate wait_places (view_wait (encode s)) ≡ s.waits = tabulate_is free s.waits wait_places (view_wait (encode s)) g.slots
    (λ i h. wait_of_cells (get_or s.waits i free) (shaped_ok s g i) (in_wait (encode s) i) (λ j l. read_wait_lem s i j g.places h l)) in
    let n : get_or (encode s) 0 0 ≡ s.next = read_next s in
    λ i. record { objects = o i; waits = w i; next = n i }

pub view_encode : (s : State) → Valid s → view (encode s) ≡ s
view_encode s g = view_shaped s (valid_shaped s g)

-- the wait at place p leaves: its place is free, and no other changes
pub at_in : (ws : List WaitPlace) (p : ℕ) (w : Wait) → get_or ws p free ≡ waiting w → w is_in ws
at_in [] p w e = absurd (differ (cc))
at_in (free ∷ ws) zero w e = differ (cc)
at_in (waiting v ∷ ws) zero w e = inl (let q : w ≡ v = cc in q)
at_in (free ∷ ws) (suc p) w e = at_in ws p w e
at_in (waiting v ∷ ws) (suc p) w e = inr (at_in ws p w e)

dequeue_none : (t : ℕ) (ws : List WaitPlace) → ((v : Wait) → v is_in ws → v.ticket ≡ t → ⊥) → dequeue t ws ≡ ws
unfolding dequeue
dequeue_none t [] h = refl
dequeue_none t (free ∷ ws) h = ap (λ (l : List WaitPlace). free ∷ l) (dequeue_none t ws h)
dequeue_none t (waiting v ∷ ws) h = let n : eqb v.ticket t ≡ false = by_bool (eqb v.ticket t) (λ e. absurd (h v (inl refl) (eqb-true _ _ e))) (λ f. f) in
    rw (n, dequeue_none t ws (λ u m. h u (inr m)))

pub dequeue_at : (ws : List WaitPlace) (p : ℕ) (w : Wait) → distinct_tickets ws ≡ true → get_or ws p free ≡ waiting w → dequeue w.ticket ws ≡ set ws p free
unfolding dequeue distinct_tickets
dequeue_at [] p w a e = refl
dequeue_at (free ∷ ws) zero w a e = differ (cc)
dequeue_at (waiting v ∷ ws) zero w a e = let q : v ≡ w = cc in let r = and_split (not (any_waiting (λ u. eqb u.ticket v.ticket) ws)) (distinct_tickets ws) a in
    let k : dequeue v.ticket ws ≡ ws = dequeue_none v.ticket ws (λ u m i. eqb-false _ _ (waiting_none (λ u. eqb u.ticket v.ticket) ws (not-true _ r.0) u m) i) in
    subst (λ (u : Wait). dequeue u.ticket (waiting v ∷ ws) ≡ set (waiting v ∷ ws) 0 free) q (rw (eqb_same v.ticket, k))
dequeue_at (free ∷ ws) (suc p) w a e = ap (λ (l : List WaitPlace). free ∷ l) (dequeue_at ws p w a e)
dequeue_at (waiting v ∷ ws) (suc p) w a e = let r = and_split (not (any_waiting (λ u. eqb u.ticket v.ticket) ws)) (distinct_tickets ws) a in
    let m : w is_in ws = at_in ws p w e in
    let n : eqb v.ticket w.ticket ≡ false = by_bool (eqb v.ticket w.ticket)
    (λ t. absurd (eqb-false w.ticket v.ticket (waiting_none (λ u. eqb u.ticket v.ticket) ws (not-true _ r.0) w m) (sym (eqb-true v.ticket w.ticket t)))) (λ f. f) in
    rw (n, dequeue_at ws p w r.1 e)

-- WRITING a wait place
set_right : (l r : List ℕ) (i v : ℕ) → set (l ++ r) (length l + i) v ≡ l ++ set r i v
set_right [] r i v = rw (zero-add i)
set_right (x ∷ l) r i v = rw (suc-add (length l) i) (ap (λ (q : List ℕ). x ∷ q) (set_right l r i v))

pub sets_right : (l r vs : List ℕ) (i : ℕ) → sets (l ++ r) (length l + i) vs ≡ l ++ sets r i vs
sets_right l r [] i = refl
sets_right l r (v ∷ vs) i = rw (set_right l r i v, ← (add-suc (length l) i)) (sets_right l (set r i v) vs (suc i))

-- cells written behind a front that took the place of the first cells
sets_none : (vs : List ℕ) (i : ℕ) → sets [] i vs ≡ []
sets_none [] i = refl
sets_none (v ∷ vs) i = sets_none vs (suc i)

pub overwrite_more : (front cells vs : List ℕ) → sets (overwrite front cells) (length front) vs ≡ overwrite (front ++ vs) cells
overwrite_more [] cells [] = refl
overwrite_more [] [] (v ∷ vs) = sets_none vs 1
overwrite_more [] (c ∷ cells) (v ∷ vs) = sets_behind vs cells v 0 ∙ ap (λ (q : List ℕ). v ∷ q) (overwrite_more [] cells vs)
overwrite_more (x ∷ front) [] vs = sets_none vs (suc (length front))
overwrite_more (x ∷ front) (c ∷ cells) vs = sets_behind vs (overwrite front cells) x (length front) ∙ ap (λ (q : List ℕ). x ∷ q) (overwrite_more front cells vs)

-- and such a front stands there where there are as many cells
pub overwrite_front : (front cells : List ℕ) → length front ≤ length cells → (take (length front) (overwrite front cells) ≡ front) × (length (overwrite front cells) ≡ length cells)
overwrite_front [] cells l = (refl, refl)
overwrite_front (x ∷ front) [] l = absurd (let z : ⊥ = omega arith in z)
overwrite_front (x ∷ front) (c ∷ cells) l = let r = overwrite_front front cells (omega arith) in (ap (λ (q : List ℕ). x ∷ q) r.0, ap suc r.1)

pub write_wait : (s : State) (i : ℕ) (x : WaitPlace) → length s.objects ≡ object_places → i < length s.waits
    → encode (with_waits s (set s.waits i x)) ≡ sets (encode s) (wait_cell i) (wait_cells x)
unfolding encode
write_wait s i x p h =
    let A : List ℕ = joined object_cells s.objects in let B : List ℕ = joined wait_cells s.waits in
    let a : length A ≡ object_size * object_places = joined_length object_cells object_size object_cells_size s.objects ∙ ap (λ (n : ℕ). object_size * n) p in
    let e : wait_cell i ≡ suc (length A + wait_size * i) = omega arith in
    rw e (sym (sets_behind (wait_cells x) (A ++ B) s.next (length A + wait_size * i) ∙ ap (λ (q : List ℕ). s.next ∷ q) (sets_right A B (wait_cells x) (wait_size * i)
    ∙ ap (λ (q : List ℕ). A ++ q) (sym (joined_set wait_cells wait_size wait_cells_size s.waits i x h)))))

pub in_at : (ws : List WaitPlace) (w : Wait) → w is_in ws → (p : ℕ) × (p < length ws) × (get_or ws p free ≡ waiting w)
in_at [] w m = absurd m
in_at (free ∷ ws) w m = let r = in_at ws w m in let l : r.0 < length ws = r.1 in (suc r.0, omega arith, r.2)
in_at (waiting v ∷ ws) w m = ⊎_elim (λ (e : w ≡ v). (0, omega arith, ap waiting (sym e)))
    (λ (k : w is_in ws). let r = in_at ws w k in let l : r.0 < length ws = r.1 in (suc r.0, omega arith, r.2)) m

pub by_place {ℓ} : {P : Type ℓ} (x : WaitPlace) → (x ≡ free → P) → ((w : Wait) → x ≡ waiting w → P) → P
by_place free f h = f refl
by_place (waiting w) f h = h w refl

-- WAIT PLACE p of s holds w: its cells
pub record Holds (s : State) (p : ℕ) (w : Wait) : Type 0 where
  pub full : length s.objects ≡ object_places
  pub inside : p < length s.waits
  pub here : get_or s.waits p free ≡ waiting w
  pub fits : length w.list ≤ max_listed

pub holds : (s : State) (p : ℕ) (w : Wait) → Valid s → p < wait_places → get_or s.waits p free ≡ waiting w → Holds s p w
holds s p w g l e = let (t0, (t1, (t2, (t3, (t4, (t5, r)))))) = passed _ (g.waits w (at_in s.waits p w e)) in
    record { full = g.places; inside = (let q = g.slots in omega arith); here = e; fits = ltb-false max_listed (length w.list) (not-true _ t5) }

pub free_cell : (s : State) (p j : ℕ) → Shaped s → p < wait_places → get_or s.waits p free ≡ free → j < wait_size → in_wait (encode s) p j ≡ 0
unfolding wait_cells
free_cell s p j g l e k = let q = g.slots in read_wait_lem s p j g.places (omega arith) k ∙ ap (λ (x : WaitPlace). get_or (wait_cells x) j 0) e ∙ get_or-replicate wait_size j 0 0 k

module _ (s : State) (p : ℕ) (w : Wait) (g : Holds s p w) where
  pub cell_is : (j : ℕ) → j < wait_size → in_wait (encode s) p j ≡ get_or (wait_cells (waiting w)) j 0
  cell_is j l = read_wait_lem s p j g.full g.inside l ∙ ap (λ (x : WaitPlace). get_or (wait_cells x) j 0) g.here

  pub ticket_is : in_wait (encode s) p 0 ≡ w.ticket
  unfolding wait_cells
  ticket_is = cell_is 0 (omega arith)

  pub mode_is : in_wait (encode s) p 1 ≡ mode_cell w.mode
  unfolding wait_cells
  mode_is = cell_is 1 (omega arith)

  pub owner_is : in_wait (encode s) p 2 ≡ w.owner
  unfolding wait_cells
  owner_is = cell_is 2 (omega arith)

  pub clock_is : in_wait (encode s) p 3 ≡ w.clock
  unfolding wait_cells
  clock_is = cell_is 3 (omega arith)

  pub timeout_is : in_wait (encode s) p 4 ≡ w.timeout
  unfolding wait_cells
  timeout_is = cell_is 4 (omega arith)

  pub count_is : in_wait (encode s) p 5 ≡ length w.list
  unfolding wait_cells
  count_is = cell_is 5 (omega arith)

  pub alert_is : in_wait (encode s) p 6 ≡ w.alert
  unfolding wait_cells
  alert_is = cell_is 6 (omega arith)

  abbrev header : List ℕ
  header = w.ticket ∷ mode_cell w.mode ∷ w.owner ∷ w.clock ∷ w.timeout ∷ length w.list ∷ w.alert ∷ []

  pub list_is : (k : ℕ) → k < length w.list → in_wait (encode s) p (header_size + k) ≡ get_or w.list k 0
  unfolding wait_cells
  list_is k l = let b : length w.list ≤ max_listed = g.fits in cell_is (header_size + k) (omega arith)
      ∙ get_or-append-add header (take max_listed (w.list ++ replicate max_listed 0)) k 0
      ∙ get_or-take max_listed (w.list ++ replicate max_listed 0) k 0 (omega arith) ∙ get_or-append w.list (replicate max_listed 0) 0 k l

  pub rest_is : (k : ℕ) → length w.list ≤ k → k < max_listed → in_wait (encode s) p (header_size + k) ≡ 0
  unfolding wait_cells
  rest_is k b l = let q : k ≡ length w.list + (k - length w.list) = omega arith in cell_is (header_size + k) (omega arith)
      ∙ get_or-append-add header (take max_listed (w.list ++ replicate max_listed 0)) k 0
      ∙ get_or-take max_listed (w.list ++ replicate max_listed 0) k 0 l ∙ ap (λ (x : ℕ). get_or (w.list ++ replicate max_listed 0) x 0) q
      ∙ get_or-append-add w.list (replicate max_listed 0) (k - length w.list) 0 ∙ get_or-replicate max_listed (k - length w.list) 0 0 (omega arith)

  pub moved : (os : List Object) → length os ≡ object_places → Holds (with_objects s os) p w
  moved os n = record { full = n; inside = g.inside; here = g.here; fits = g.fits }
