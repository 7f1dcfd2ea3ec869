-- Document 01's list "Sound tables" line by line (ValidCells) is the test `valid_tables`, both ways.
use mathlib.Core.Path.{◌≡◌, refl, ap, sym, ◌∙◌, subst}
use mathlib.Core.Bool.{Bool, true, false, not, ◌||◌, cond}
use mathlib.Core.List.{List, [], ◌∷◌, ◌++◌}
use mathlib.Core.Logic.{inl, inr, ⊎_elim}
use Prim.Native.Nat.{ℕ, zero, suc, ◌+◌, ◌-◌, ◌/◌, ◌%◌, ◌≤◌, ◌<◌}
use native.Mathlib.Omega.{arith}
use native.Mathlib.Nat.{div-add-mod, mod-lt}
use lib.ListN.{length, get_or, replicate, take, get_or-append, get_or-eq_default}
use lib.Seq.{get_or-append-add, get_or-take, ext_get_or}
use lib.Dec.{eqb, ltb}
use borrow.Author.Tests.{ltb-true, ltb-false, leb-true, eqb-true, eqb-false, not-true, lt-ltb, le-ltb, le-leb, eq-eqb, ne_eqb}
use Rattle.model.specs.Basics.{bit, member, has_repeat, tabulate}
use Rattle.model.specs.Calls.{list_too_short, all_occupied, repeats}
use Rattle.model.specs.Layout.{object_size, header_size, wait_size, waits_base, table_length, object_cells, mode_cell, wait_cells, encode, object_of, in_object, in_wait, wait_of, view, valid_object, valid_wait, distinct_tickets, valid_tables}
use Rattle.model.specs.Sizes.{object_places, wait_places, max_listed, word32, word64}
use Rattle.model.specs.Objects.{Object, empty, semaphore, mutex, event, occupied, is_event, never_signaled}
use Rattle.model.specs.ValidCells.{Occupied, OfEvent, ValidObject, ValidWait, ValidCells}
use Rattle.model.specs.Notions.{◌is_in◌}
use Rattle.model.specs.Waits.{Mode, any, all, Wait, WaitPlace, free, waiting, State, object_at, any_waiting}
use Rattle.model.proofs.Logic.{by_bool, clash, differ, and_split, or_left, or_right, or_split, one_or_more, member_at, at_member, passed, pass}
use Rattle.model.proofs.Validity.{tables_valid, encoded_valid}
use Rattle.model.proofs.Valid.{Valid, in_places, none_waiting, waiting_none, all_occupied_in, event_occupied}
use Rattle.model.proofs.Cells.{valid_shaped, object_cell, wait_cell, read_object_lem, flag, view_object, view_wait, read_wait_lem, encode_length, read_next, at_in, in_at, by_place, Holds, holds, free_cell, ticket_is, mode_is, owner_is, clock_is, timeout_is, count_is, alert_is, list_is, rest_is}

eqb_nonzero : (n : ℕ) → 0 < n → eqb n 0 ≡ false
eqb_nonzero n h = ne_eqb n 0 (λ e. let z : ⊥ = omega arith in z)

-- owner 0 exactly when count 0, as a test
pub same_zero : (a b : ℕ) → eqb (bit (eqb a 0)) (bit (eqb b 0)) ≡ true → (a ≡ 0 → b ≡ 0) × (b ≡ 0 → a ≡ 0)
same_zero a b e = (
  λ z. eqb-true b 0 (by_bool (eqb b 0) (λ y. y) (λ n. clash (let q : eqb (bit true) (bit false) ≡ true = rw (eq-eqb a 0 z, n) at e in q) refl)),
  λ z. eqb-true a 0 (by_bool (eqb a 0) (λ y. y) (λ n. clash (let q : eqb (bit false) (bit true) ≡ true = rw (eq-eqb b 0 z, n) at e in q) refl)),
)

pub zero_same : (a b : ℕ) → (a ≡ 0 → b ≡ 0) → (b ≡ 0 → a ≡ 0) → eqb (bit (eqb a 0)) (bit (eqb b 0)) ≡ true
zero_same a b f g = by_bool (eqb a 0) (λ y. rw (y, eq-eqb b 0 (f (eqb-true a 0 y)))) (λ n. rw (n, ne_eqb b 0 (λ z. eqb-false a 0 n (g z))))

-- a maximum of 1 or more
pub has_maximum : (m : ℕ) → not (never_signaled m) ≡ true → 1 ≤ m
has_maximum m e = leb-true 1 m (one_or_more m ∙ e)

pub maximum_has : (m : ℕ) → 1 ≤ m → not (never_signaled m) ≡ true
maximum_has m l = sym (one_or_more m) ∙ le-leb 1 m l

bit_low : (b : Bool) → bit b ≤ 1
bit_low true = omega arith
bit_low false = omega arith

flag_bit : (c : ℕ) → c ≤ 1 → bit (flag c) ≡ c
flag_bit c l = by_bool (eqb c 0) (λ y. rw (eqb-true c 0 y))
    (λ n. let z : c ≡ 0 → ⊥ = eqb-false c 0 n in let q : c ≡ 1 = omega arith in rw q)

-- OBJECTS
not_kind : {P : Type 0} (a b : ℕ) → (a ≡ b → ⊥) → a ≡ b → P
not_kind a b n e = absurd (n e)

object_lines : (x : Object) → valid_object x ≡ true
    → ValidObject (get_or (object_cells x) 0 0) (get_or (object_cells x) 1 0) (get_or (object_cells x) 2 0) (get_or (object_cells x) 3 0)
unfolding object_cells
object_lines empty g = record {
  kinds = omega arith;
  zeros = λ e. (refl, refl, refl);
  semaphore = λ e. absurd (let z : ⊥ = omega arith in z);
  maximum = λ e. absurd (let z : ⊥ = omega arith in z);
  mutex = λ e. absurd (let z : ⊥ = omega arith in z);
  unowned = λ e. absurd (let z : ⊥ = omega arith in z);
  abandoned = λ e. absurd (let z : ⊥ = omega arith in z);
  event = λ e. absurd (let z : ⊥ = omega arith in z);
}
object_lines (semaphore c m) g = let (t0, (t1, (t2, t3))) = passed _ g in record {
  kinds = omega arith;
  zeros = λ e. absurd (let z : ⊥ = omega arith in z);
  semaphore = λ e. (leb-true c m t0, ltb-true m word32 t1, refl);
  maximum = λ e. has_maximum m t2;
  mutex = λ e. absurd (let z : ⊥ = omega arith in z);
  unowned = λ e. absurd (let z : ⊥ = omega arith in z);
  abandoned = λ e. absurd (let z : ⊥ = omega arith in z);
  event = λ e. absurd (let z : ⊥ = omega arith in z);
}
object_lines (mutex o c a) g = let (t0, (t1, (t2, (t3, t4)))) = passed (ltb o word32 ∷ ltb c word32 ∷ eqb (bit (eqb o 0)) (bit (eqb c 0)) ∷ (not a || eqb o 0) ∷ []) g in record {
  kinds = omega arith;
  zeros = λ e. absurd (let z : ⊥ = omega arith in z);
  semaphore = λ e. absurd (let z : ⊥ = omega arith in z);
  maximum = λ e. absurd (let z : ⊥ = omega arith in z);
  mutex = λ e. (ltb-true o word32 t0, ltb-true c word32 t1, bit_low a);
  unowned = λ e. same_zero o c t2;
  abandoned = λ e. go a t3;
  event = λ e. absurd (let z : ⊥ = omega arith in z);
}
  where
    go : (a : Bool) → (not a || eqb o 0) ≡ true → bit a ≡ 1 → o ≡ 0
    go true t e = eqb-true o 0 t
    go false t e = absurd (let z : ⊥ = omega arith in z)
object_lines (event s m) g = record {
  kinds = omega arith;
  zeros = λ e. absurd (let z : ⊥ = omega arith in z);
  semaphore = λ e. absurd (let z : ⊥ = omega arith in z);
  maximum = λ e. absurd (let z : ⊥ = omega arith in z);
  mutex = λ e. absurd (let z : ⊥ = omega arith in z);
  unowned = λ e. absurd (let z : ⊥ = omega arith in z);
  abandoned = λ e. absurd (let z : ⊥ = omega arith in z);
  event = λ e. (bit_low s, bit_low m, refl);
}

pub by_number : {P : Type 0} (k : ℕ) → k ≤ 3 → (k ≡ 0 → P) → (k ≡ 1 → P) → (k ≡ 2 → P) → (k ≡ 3 → P) → P
by_number k l p0 p1 p2 p3 = by_bool (eqb k 0) (λ y. p0 (eqb-true k 0 y)) (λ n0. by_bool (eqb k 1) (λ y. p1 (eqb-true k 1 y)) (λ n1. by_bool (eqb k 2) (λ y. p2 (eqb-true k 2 y))
    (λ n2. let a : k ≡ 0 → ⊥ = eqb-false k 0 n0 in let b : k ≡ 1 → ⊥ = eqb-false k 1 n1 in let c : k ≡ 2 → ⊥ = eqb-false k 2 n2 in p3 (omega arith))))

-- an object that passes has the cells that it is read from, and is valid
object_shape : (k c o a : ℕ) → ValidObject k c o a → object_cells (object_of k c o a) ≡ k ∷ c ∷ o ∷ a ∷ []
unfolding object_cells
object_shape k c o a v = by_number k v.kinds
    (λ e. let r = v.zeros e in let e0 = r.0 in let e1 = r.1 in let e2 = r.2 in rw (e, e0, e1, e2))
    (λ e. let r = v.semaphore e in let e2 = r.2 in rw (e, e2))
    (λ e. let r = v.mutex e in rw (e, flag_bit a r.2))
    (λ e. let r = v.event e in let e2 = r.2 in rw (e, e2, flag_bit c r.0, flag_bit a r.1))

object_passes : (k c o a : ℕ) → ValidObject k c o a → valid_object (object_of k c o a) ≡ true
object_passes k c o a v = by_number k v.kinds
    (λ e. rw e)
    (λ e. let r = v.semaphore e in rw e (pass _ (le-leb c a r.0, (lt-ltb a word32 r.1, (maximum_has a (v.maximum e), tt)))))
    (λ e. let r = v.mutex e in let u = v.unowned e in rw e (pass _ (
      lt-ltb o word32 r.0,
      (
        lt-ltb c word32 r.1,
        (
          zero_same o c u.0 u.1,
          (by_bool (eqb a 0) (λ y. rw y) (λ n. let f : a ≡ 0 → ⊥ = eqb-false a 0 n in let l : a ≤ 1 = r.2 in or_right (not (flag a)) (eqb o 0) (eq-eqb o 0 (v.abandoned e (omega arith)))), tt),
        ),
      ),
    )))
    (λ e. rw e)

-- a handle's cells
abbrev kind_cell : Object → ℕ
kind_cell x = get_or (object_cells x) 0 0

kind_zero : (x : Object) → kind_cell x ≡ 0 → occupied x ≡ false
unfolding object_cells
kind_zero empty e = refl
kind_zero (semaphore c m) e = absurd (let z : ⊥ = omega arith in z)
kind_zero (mutex o c a) e = absurd (let z : ⊥ = omega arith in z)
kind_zero (event s m) e = absurd (let z : ⊥ = omega arith in z)

zero_kind : (x : Object) → occupied x ≡ false → kind_cell x ≡ 0
unfolding object_cells
zero_kind empty e = refl
zero_kind (semaphore c m) e = clash refl e
zero_kind (mutex o c a) e = clash refl e
zero_kind (event s m) e = clash refl e

event_kind : (x : Object) → is_event x ≡ true → kind_cell x ≡ 3
unfolding object_cells
event_kind empty e = clash e refl
event_kind (semaphore c m) e = clash e refl
event_kind (mutex o c a) e = clash e refl
event_kind (event s m) e = refl

kind_event : (x : Object) → kind_cell x ≡ 3 → is_event x ≡ true
unfolding object_cells
kind_event empty e = absurd (let z : ⊥ = omega arith in z)
kind_event (semaphore c m) e = absurd (let z : ⊥ = omega arith in z)
kind_event (mutex o c a) e = absurd (let z : ⊥ = omega arith in z)
kind_event (event s m) e = refl

module _ (s : State) (full : length s.objects ≡ object_places) where
  kind_at : (h : ℕ) → 1 ≤ h → h ≤ object_places → in_object (encode s) (h - 1) 0 ≡ kind_cell (object_at s.objects h)
  kind_at zero l b = absurd (let z : ⊥ = omega arith in z)
  kind_at (suc i) l b = let e : suc i - 1 ≡ i = omega arith in rw e (read_object_lem s i 0 (omega arith) (omega arith))

  occupied_line : (h : ℕ) → occupied (object_at s.objects h) ≡ true → Occupied (encode s) h
  occupied_line h e = let r = in_places s.objects h e in let b : h ≤ object_places = (let q : h ≤ length s.objects = r.1 in omega arith) in
      record { low = r.0; high = b; kind = λ z. clash e (kind_zero (object_at s.objects h) (sym (kind_at h r.0 b) ∙ z)) }

  line_occupied : (h : ℕ) → Occupied (encode s) h → occupied (object_at s.objects h) ≡ true
  line_occupied h o = by_bool (occupied (object_at s.objects h)) (λ y. y) (λ f. absurd (o.kind (kind_at h o.low o.high ∙ zero_kind (object_at s.objects h) f)))

  event_line : (h : ℕ) → is_event (object_at s.objects h) ≡ true → OfEvent (encode s) h
  event_line h e = let r = in_places s.objects h (event_occupied (object_at s.objects h) e) in let b : h ≤ object_places = (let q : h ≤ length s.objects = r.1 in omega arith) in
      record { low = r.0; high = b; kind = kind_at h r.0 b ∙ event_kind (object_at s.objects h) e }

  line_event : (h : ℕ) → OfEvent (encode s) h → is_event (object_at s.objects h) ≡ true
  line_event h o = kind_event (object_at s.objects h) (sym (kind_at h o.low o.high) ∙ o.kind)

-- LISTS
-- no number stands at two places
abbrev pub Once : List ℕ → Type 0
Once hs = (j k : ℕ) → j < k → k < length hs → get_or hs j 0 ≡ get_or hs k 0 → ⊥

pub repeat_once : (hs : List ℕ) → has_repeat hs ≡ false → Once hs
unfolding has_repeat
repeat_once [] e j k l m i = let z : ⊥ = omega arith in z
repeat_once (h ∷ hs) e j zero l m i = let z : ⊥ = omega arith in z
repeat_once (h ∷ hs) e zero (suc k) l m i = clash (at_member h hs k (omega arith) (sym i)) (or_split (member h hs) (has_repeat hs) e).0
repeat_once (h ∷ hs) e (suc j) (suc k) l m i = repeat_once hs (or_split (member h hs) (has_repeat hs) e).1 j k (omega arith) (omega arith) i

pub once_repeat : (hs : List ℕ) → Once hs → has_repeat hs ≡ false
unfolding has_repeat
once_repeat [] o = refl
once_repeat (h ∷ hs) o =
    let n : member h hs ≡ false = by_bool (member h hs) (λ y. let r = member_at h hs y in let l : r.0 < length hs = r.1 in absurd (o 0 (suc r.0) (omega arith) (omega arith) (sym r.2))) (λ f. f) in
    rw (n, once_repeat hs (λ j k l m i. o (suc j) (suc k) (omega arith) (omega arith) i))

occupied_each : (os : List Object) (hs : List ℕ) → ((k : ℕ) → k < length hs → occupied (object_at os (get_or hs k 0)) ≡ true) → all_occupied os hs ≡ true
unfolding all_occupied
occupied_each os [] f = refl
occupied_each os (h ∷ hs) f = rw (f 0 (omega arith), occupied_each os hs (λ k l. f (suc k) (omega arith)))

each_occupied : (os : List Object) (hs : List ℕ) → all_occupied os hs ≡ true → (k : ℕ) → k < length hs → occupied (object_at os (get_or hs k 0)) ≡ true
each_occupied os hs e k l = all_occupied_in os hs e (get_or hs k 0) (at_member (get_or hs k 0) hs k l refl)

not_short : (m : Mode) (hs : List ℕ) → not (list_too_short m hs) ≡ true → mode_cell m ≡ 1 → 1 ≤ length hs
not_short any hs e m = absurd (let z : ⊥ = omega arith in z)
not_short all hs e m = let z : length hs ≡ 0 → ⊥ = eqb-false (length hs) 0 (not-true _ e) in omega arith

short_not : (m : Mode) (hs : List ℕ) → (mode_cell m ≡ 1 → 1 ≤ length hs) → not (list_too_short m hs) ≡ true
short_not any hs l = refl
short_not all hs l = rw (eqb_nonzero (length hs) (l refl))

mode_low : (m : Mode) → mode_cell m ≤ 1
mode_low any = omega arith
mode_low all = omega arith

no_repeat : (m : Mode) (hs : List ℕ) → not (repeats m hs) ≡ true → mode_cell m ≡ 1 → Once hs
no_repeat any hs t e = absurd (let z : ⊥ = omega arith in z)
no_repeat all hs t e = repeat_once hs (not-true _ t)

repeat_no : (m : Mode) (hs : List ℕ) → (mode_cell m ≡ 1 → Once hs) → not (repeats m hs) ≡ true
repeat_no any hs o = refl
repeat_no all hs o = rw (once_repeat hs (o refl))

-- tickets by places
distinct_at : (ws : List WaitPlace) → distinct_tickets ws ≡ true → (i j : ℕ) (u v : Wait) → get_or ws i free ≡ waiting u → get_or ws j free ≡ waiting v → u.ticket ≡ v.ticket → i ≡ j
unfolding distinct_tickets
distinct_at [] a i j u v e d q = absurd (differ {P = ⊥} (cc))
distinct_at (x ∷ ws) a zero zero u v e d q = refl
distinct_at (free ∷ ws) a zero (suc j) u v e d q = absurd (differ {P = ⊥} (cc))
distinct_at (waiting w ∷ ws) a zero (suc j) u v e d q = absurd (let r = and_split (not (any_waiting (λ x. eqb x.ticket w.ticket) ws)) (distinct_tickets ws) a in
    let k : w ≡ u = cc in eqb-false v.ticket w.ticket (waiting_none (λ x. eqb x.ticket w.ticket) ws (not-true _ r.0) v (at_in ws j v d)) (sym q ∙ ap (λ (x : Wait). x.ticket) (sym k)))
distinct_at (free ∷ ws) a (suc i) zero u v e d q = absurd (differ {P = ⊥} (cc))
distinct_at (waiting w ∷ ws) a (suc i) zero u v e d q = absurd (let r = and_split (not (any_waiting (λ x. eqb x.ticket w.ticket) ws)) (distinct_tickets ws) a in
    let k : w ≡ v = cc in eqb-false u.ticket w.ticket (waiting_none (λ x. eqb x.ticket w.ticket) ws (not-true _ r.0) u (at_in ws i u e)) (q ∙ ap (λ (x : Wait). x.ticket) (sym k)))
distinct_at (free ∷ ws) a (suc i) (suc j) u v e d q = ap suc (distinct_at ws a i j u v e d q)
distinct_at (waiting w ∷ ws) a (suc i) (suc j) u v e d q = ap suc (distinct_at ws (and_split (not (any_waiting (λ x. eqb x.ticket w.ticket) ws)) (distinct_tickets ws) a).1 i j u v e d q)

at_distinct : (ws : List WaitPlace) → ((i j : ℕ) (u v : Wait) → i < j → j < length ws → get_or ws i free ≡ waiting u → get_or ws j free ≡ waiting v → u.ticket ≡ v.ticket → ⊥) → distinct_tickets ws ≡ true
unfolding distinct_tickets
at_distinct [] h = refl
at_distinct (free ∷ ws) h = at_distinct ws (λ i j u v l m. h (suc i) (suc j) u v (omega arith) (omega arith))
at_distinct (waiting w ∷ ws) h =
    let n : any_waiting (λ v. eqb v.ticket w.ticket) ws ≡ false = none_waiting _ ws (λ v m. by_bool (eqb v.ticket w.ticket)
    (λ y. let r = in_at ws v m in let l : r.0 < length ws = r.1 in absurd (h 0 (suc r.0) w v (omega arith) (omega arith) refl r.2 (sym (eqb-true _ _ y)))) (λ f. f)) in
    rw (n, at_distinct ws (λ i j u v l m. h (suc i) (suc j) u v (omega arith) (omega arith)))

-- THE TABLES OF A VALID STATE have every line
module _ (s : State) (g : Valid s) where
  alone_line : (p : ℕ) (w : Wait) → p < wait_places → get_or s.waits p free ≡ waiting w → (q : ℕ) → q < wait_places → in_wait (encode s) q 0 ≡ in_wait (encode s) p 0 → q ≡ p
  alone_line p w l e q m i = let t : in_wait (encode s) p 0 ≡ w.ticket = ticket_is s p w (holds s p w g l e) in let z : 0 < w.ticket = (g.tickets w (at_in s.waits p w e)).0 in
      by_place (get_or s.waits q free)
      (λ d. let k : in_wait (encode s) q 0 ≡ 0 = free_cell s q 0 (valid_shaped s g) m d (omega arith) in absurd (let x : ⊥ = omega arith in x))
      (λ u d. distinct_at s.waits g.distinct q p u w d e (sym (ticket_is s q u (holds s q u g m d)) ∙ i ∙ t))

  wait_lines_lem : (p : ℕ) (w : Wait) → p < wait_places → get_or s.waits p free ≡ waiting w → ValidWait (encode s) p
  wait_lines_lem p w l e =
      let h : Holds s p w = holds s p w g l e in let m : w is_in s.waits = at_in s.waits p w e in
      let (t0, (t1, (t2, (t3, (t4, (t5, (t6, (t7, (t8, t9))))))))) = passed _ (g.waits w m) in
      let o : w.owner ≡ 0 → ⊥ = eqb-false w.owner 0 (not-true _ t0) in
      let n : length w.list ≤ max_listed = h.fits in
      let c : in_wait (encode s) p 5 ≡ length w.list = count_is s p w h in
      let one : mode_cell w.mode ≡ 1 → Once (w.alert ∷ w.list) = no_repeat w.mode (w.alert ∷ w.list) t8 in
      record {
        owner = rw (owner_is s p w h) (omega arith, ltb-true _ _ t1);
        below = rw (ticket_is s p w h, read_next s) (g.tickets w m).1;
        alone = alone_line p w l e;
        listed = rw (c, mode_is s p w h) (not_short w.mode w.list t4, n);
        occupied = λ k b. let b' : k < length w.list = rw c at b in rw (list_is s p w h k b') (occupied_line s g.places (get_or w.list k 0) (each_occupied s.objects w.list t6 k b'));
        unused = λ k b u. rest_is s p w h k (rw c at b) u;
        alert = rw (alert_is s p w h) (by_bool (eqb w.alert 0) (λ y. inl (eqb-true _ _ y)) (λ f. inr (event_line s g.places w.alert (rw f at t7))));
        mode = rw (mode_is s p w h) (mode_low w.mode);
        clock = rw (clock_is s p w h) (let z : w.clock < 2 = ltb-true _ _ t2 in omega arith);
        timeout = rw (timeout_is s p w h) (ltb-true _ _ t3);
        once = λ y k b. let b' : k < length w.list = rw c at b in let y' : mode_cell w.mode ≡ 1 = rw (mode_is s p w h) at y in
            rw (list_is s p w h k b', alert_is s p w h) (
              λ i. one y' 0 (suc k) (omega arith) (omega arith) (sym i),
              λ j a i. one y' (suc j) (suc k) (omega arith) (omega arith) (sym (list_is s p w h j (omega arith)) ∙ i),
            );
      }

  pub valid_lines : ValidCells (encode s)
  valid_lines = record {
    size = encode_length s g.places g.slots;
    next = rw (read_next s) (g.started, g.bounded);
    objects = λ p l. let q = g.places in
        rw (read_object_lem s p 0 (omega arith) (omega arith), read_object_lem s p 1 (omega arith) (omega arith), read_object_lem s p 2 (omega arith) (omega arith), read_object_lem s p 3 (omega arith) (omega arith))
        (object_lines (object_at s.objects (suc p)) (g.objects (suc p)));
    free = λ p l z j k. by_place (get_or s.waits p free) (λ e. free_cell s p j (valid_shaped s g) l e k)
        (λ w e. absurd (let t : in_wait (encode s) p 0 ≡ w.ticket = ticket_is s p w (holds s p w g l e) in let y : 0 < w.ticket = (g.tickets w (at_in s.waits p w e)).0 in let x : ⊥ = omega arith in x));
    queued = λ p l n. by_place (get_or s.waits p free) (λ e. absurd (n (free_cell s p 0 (valid_shaped s g) l e (omega arith)))) (λ w e. wait_lines_lem p w l e);
  }

-- CELLS WITH EVERY LINE are those of the state that they show
tabulate_length : {A : Type 0} (n : ℕ) (f : ℕ → A) → length (tabulate n f) ≡ n
unfolding tabulate
tabulate_length zero f = refl
tabulate_length (suc n) f = ap suc (tabulate_length n (λ i. f (suc i)))

pub tabulate_at : {A : Type 0} (n : ℕ) (f : ℕ → A) (i : ℕ) (d : A) → i < n → get_or (tabulate n f) i d ≡ f i
unfolding tabulate
tabulate_at zero f i d h = absurd (let z : ⊥ = omega arith in z)
tabulate_at (suc n) f zero d h = refl
tabulate_at (suc n) f (suc i) d h = tabulate_at n (λ j. f (suc j)) i d (omega arith)

get_zeros : (n i : ℕ) → ◌≡◌ {A = ℕ} (get_or (replicate n 0) i 0) 0
get_zeros zero i = refl
get_zeros (suc n) zero = refl
get_zeros (suc n) (suc i) = get_zeros n i

-- two tables are one if all their places are
cells_ext : (t u : List ℕ) → length t ≡ table_length → length u ≡ table_length → get_or t 0 0 ≡ get_or u 0 0
    → ((p j : ℕ) → p < object_places → j < object_size → in_object t p j ≡ in_object u p j)
    → ((p j : ℕ) → p < wait_places → j < wait_size → in_wait t p j ≡ in_wait u p j) → t ≡ u
cells_ext t u lt lu e o w = ext_get_or 0 t u (lt ∙ sym lu) (λ i h. by_bool (eqb i 0)
    (λ y. rw (eqb-true i 0 y) e)
    (λ n. let z : i ≡ 0 → ⊥ = eqb-false i 0 n in by_bool (ltb i waits_base)
    (λ y. let b : i < waits_base = ltb-true _ _ y in let d = div-add-mod (i - 1) object_size in let m : (i - 1) % object_size < object_size = mod-lt (i - 1) (omega arith) in
    let q : i ≡ object_cell ((i - 1) / object_size) + (i - 1) % object_size = omega arith in
    subst (λ (x : ℕ). get_or t x 0 ≡ get_or u x 0) (sym q) (o ((i - 1) / object_size) ((i - 1) % object_size) (omega arith) m))
    (λ f. let b : waits_base ≤ i = ltb-false _ _ f in let d = div-add-mod (i - waits_base) wait_size in let m : (i - waits_base) % wait_size < wait_size = mod-lt (i - waits_base) (omega arith) in
    let q : i ≡ wait_cell ((i - waits_base) / wait_size) + (i - waits_base) % wait_size = omega arith in
    subst (λ (x : ℕ). get_or t x 0 ≡ get_or u x 0) (sym q) (w ((i - waits_base) / wait_size) ((i - waits_base) % wait_size) (omega arith) m))))

mode_bit : (m : ℕ) → m ≤ 1 → mode_cell (cond (eqb m 0) any all) ≡ m
mode_bit m l = by_bool (eqb m 0) (λ y. rw (eqb-true m 0 y))
    (λ n. let z : m ≡ 0 → ⊥ = eqb-false m 0 n in let q : m ≡ 1 = omega arith in rw q)

list_shape : (n : ℕ) (f : ℕ → ℕ) (k : ℕ) → n ≤ max_listed → k < max_listed → (n ≤ k → f k ≡ 0) → get_or (take max_listed (tabulate n f ++ replicate max_listed 0)) k 0 ≡ f k
list_shape n f k l h z = get_or-take max_listed (tabulate n f ++ replicate max_listed 0) k 0 h ∙ by_bool (ltb k n)
    (λ y. let b : k < n = ltb-true k n y in let m = tabulate_length n f in get_or-append (tabulate n f) (replicate max_listed 0) 0 k (omega arith) ∙ tabulate_at n f k 0 b)
    (λ u. let b : n ≤ k = ltb-false k n u in let m = tabulate_length n f in let q : k ≡ length (tabulate n f) + (k - n) = omega arith in
    ap (λ (x : ℕ). get_or (tabulate n f ++ replicate max_listed 0) x 0) q ∙ get_or-append-add (tabulate n f) (replicate max_listed 0) (k - n) 0 ∙ get_zeros max_listed (k - n) ∙ sym (z b))

record WaitShape (f : ℕ → ℕ) : Type 0 where
  taken : eqb (f 0) 0 ≡ false
  mode : f 1 ≤ 1
  fits : f 5 ≤ max_listed
  rest : (k : ℕ) → f 5 ≤ k → k < max_listed → f (header_size + k) ≡ 0

wait_shape : (f : ℕ → ℕ) → WaitShape f → (j : ℕ) → j < wait_size → get_or (wait_cells (wait_of f)) j 0 ≡ f j
unfolding wait_cells
wait_shape f g zero l = let e = g.taken in rw e
wait_shape f g (suc zero) l = let e = g.taken in rw e (mode_bit (f 1) g.mode)
wait_shape f g (suc (suc zero)) l = let e = g.taken in rw e
wait_shape f g (suc (suc (suc zero))) l = let e = g.taken in rw e
wait_shape f g (suc (suc (suc (suc zero)))) l = let e = g.taken in rw e
wait_shape f g (suc (suc (suc (suc (suc zero))))) l = let e = g.taken in rw e (tabulate_length (f 5) _)
wait_shape f g (suc (suc (suc (suc (suc (suc zero)))))) l = let e = g.taken in rw e
wait_shape f g (suc (suc (suc (suc (suc (suc (suc k))))))) l = let e = g.taken in
    let q : header_size + k ≡ suc (suc (suc (suc (suc (suc (suc k)))))) = omega arith in
    rw e (list_shape (f 5) (λ i. f (header_size + i)) k g.fits (omega arith) (λ b. g.rest k b (omega arith)) ∙ ap f q)

free_shape : (f : ℕ → ℕ) → eqb (f 0) 0 ≡ true → ((j : ℕ) → j < wait_size → f j ≡ 0) → (j : ℕ) → j < wait_size → get_or (wait_cells (wait_of f)) j 0 ≡ f j
unfolding wait_cells
free_shape f e z j l = rw e (get_zeros wait_size j ∙ sym (z j l))

view_objects : (t : List ℕ) (p : ℕ) → p < object_places → get_or (view t).objects p empty ≡ view_object t p
unfolding view
view_objects t p l = tabulate_at object_places (view_object t) p empty l

view_waits : (t : List ℕ) (p : ℕ) → p < wait_places → get_or (view t).waits p free ≡ view_wait t p
unfolding view
view_waits t p l = tabulate_at wait_places (view_wait t) p free l

pub view_places : (t : List ℕ) → length (view t).objects ≡ object_places
unfolding view
view_places t = tabulate_length object_places (view_object t)

pub view_slots : (t : List ℕ) → length (view t).waits ≡ wait_places
unfolding view
view_slots t = tabulate_length wait_places (view_wait t)

view_next : (t : List ℕ) → (view t).next ≡ get_or t 0 0
unfolding view
view_next t = refl

four : (t : List ℕ) (p j : ℕ) → j < object_size → get_or (in_object t p 0 ∷ in_object t p 1 ∷ in_object t p 2 ∷ in_object t p 3 ∷ []) j 0 ≡ in_object t p j
four t p zero l = refl
four t p (suc zero) l = refl
four t p (suc (suc zero)) l = refl
four t p (suc (suc (suc zero))) l = refl
four t p (suc (suc (suc (suc j)))) l = absurd (let z : ⊥ = omega arith in z)

module _ (t : List ℕ) (c : ValidCells t) where
  wait_cells_lem : (p : ℕ) → p < wait_places → (j : ℕ) → j < wait_size → get_or (wait_cells (view_wait t p)) j 0 ≡ in_wait t p j
  wait_cells_lem p l = by_bool (eqb (in_wait t p 0) 0)
      (λ y. free_shape (in_wait t p) y (c.free p l (eqb-true _ _ y)))
      (λ n. let v : ValidWait t p = c.queued p l (eqb-false _ _ n) in
      wait_shape (in_wait t p) (record { taken = n; mode = v.mode; fits = v.listed.1; rest = λ k b u. v.unused k b u }))

  pub shown : t ≡ encode (view t)
  shown = cells_ext t (encode (view t)) c.size (encode_length (view t) (view_places t) (view_slots t)) (sym (read_next (view t) ∙ view_next t))
      (λ p j l k. sym (read_object_lem (view t) p j (let q = view_places t in omega arith) k
      ∙ rw (view_objects t p l, object_shape (in_object t p 0) (in_object t p 1) (in_object t p 2) (in_object t p 3) (c.objects p l)) (four t p j k)))
      (λ p j l k. sym (read_wait_lem (view t) p j (view_places t) (let q = view_slots t in omega arith) k ∙ rw (view_waits t p l) (wait_cells_lem p l j k)))

  objects_shown : (h : ℕ) → valid_object (object_at (view t).objects h) ≡ true
  objects_shown zero = refl
  objects_shown (suc i) = let q = view_places t in by_bool (ltb i object_places)
      (λ y. let l : i < object_places = ltb-true _ _ y in rw (view_objects t i l) (object_passes (in_object t i 0) (in_object t i 1) (in_object t i 2) (in_object t i 3) (c.objects i l)))
      (λ f. let l : object_places ≤ i = ltb-false _ _ f in ap valid_object (get_or-eq_default (view t).objects empty {n = i} (omega arith)))

  -- the place of a wait that is shown, and its cells
  record ShownAt (p : ℕ) (w : Wait) : Type 0 where
    low : p < wait_places
    taken : 1 ≤ in_wait t p 0
    lines : ValidWait t p
    held : Holds (view t) p w

  abbrev listed_of : WaitPlace → ℕ
  listed_of free = 0
  listed_of (waiting w) = length w.list

  shown_at : (p : ℕ) (w : Wait) → p < wait_places → get_or (view t).waits p free ≡ waiting w → ShownAt p w
  shown_at p w l e = by_bool (eqb (in_wait t p 0) 0)
      (λ y. let q : view_wait t p ≡ waiting w = sym (view_waits t p l) ∙ e in let f : free ≡ waiting w = rw y at q in differ (cc))
      (λ n. let v : ValidWait t p = c.queued p l (eqb-false _ _ n) in let z : in_wait t p 0 ≡ 0 → ⊥ = eqb-false _ _ n in
      let size : length w.list ≡ in_wait t p 5 = sym (ap listed_of (sym (view_waits t p l) ∙ e)) ∙ rw n (tabulate_length (in_wait t p 5) _) in
      record {
        low = l;
        taken = omega arith;
        lines = v;
        held = record { full = view_places t; inside = (let q = view_slots t in omega arith); here = e; fits = (let b : in_wait t p 5 ≤ max_listed = v.listed.1 in omega arith) };
      })

  shown_in : (w : Wait) → w is_in (view t).waits → (p : ℕ) × ShownAt p w
  shown_in w m = let r = in_at (view t).waits w m in let l : r.0 < length (view t).waits = r.1 in let q = view_slots t in (r.0, shown_at r.0 w (omega arith) r.2)

  -- a cell of a wait, in t and in the encoding
  at_view : (p j : ℕ) → in_wait t p j ≡ in_wait (encode (view t)) p j
  at_view p j = ap (λ (x : List ℕ). in_wait x p j) shown

  wait_shown : (p : ℕ) (w : Wait) → ShownAt p w → valid_wait (view t).objects w ≡ true
  wait_shown p w a =
      let v : ValidWait t p = a.lines in let h : Holds (view t) p w = a.held in
      let full : length (view t).objects ≡ object_places = view_places t in
      let eo : in_wait t p 2 ≡ w.owner = at_view p 2 ∙ owner_is (view t) p w h in
      let ec : in_wait t p 3 ≡ w.clock = at_view p 3 ∙ clock_is (view t) p w h in
      let et : in_wait t p 4 ≡ w.timeout = at_view p 4 ∙ timeout_is (view t) p w h in
      let en : in_wait t p 5 ≡ length w.list = at_view p 5 ∙ count_is (view t) p w h in
      let ea : in_wait t p 6 ≡ w.alert = at_view p 6 ∙ alert_is (view t) p w h in
      let em : in_wait t p 1 ≡ mode_cell w.mode = at_view p 1 ∙ mode_is (view t) p w h in
      let el : (k : ℕ) → k < length w.list → in_wait t p (header_size + k) ≡ get_or w.list k 0 = λ k b. at_view p (header_size + k) ∙ list_is (view t) p w h k b in
      let o0 : 1 ≤ in_wait t p 2 = v.owner.0 in let o1 : in_wait t p 2 < word32 = v.owner.1 in let c1 : in_wait t p 3 ≤ 1 = v.clock in
      let fit : ltb max_listed (length w.list) ≡ false = le-ltb max_listed (length w.list) h.fits in
      let no-owner : eqb w.owner 0 ≡ false = eqb_nonzero w.owner (omega arith) in
      let occ : all_occupied (view t).objects w.list ≡ true = occupied_each (view t).objects w.list
      (λ k b. line_occupied (view t) full (get_or w.list k 0) (subst (λ (u : List ℕ). Occupied u (get_or w.list k 0)) shown (rw (← (el k b)) (v.occupied k (omega arith))))) in
      let al : (eqb w.alert 0 || is_event (object_at (view t).objects w.alert)) ≡ true = ⊎_elim
      (λ (z : in_wait t p 6 ≡ 0). or_left (eqb w.alert 0) _ (eq-eqb w.alert 0 (sym ea ∙ z)))
      (λ (z : OfEvent t (in_wait t p 6)). or_right (eqb w.alert 0) _ (line_event (view t) full w.alert (subst (λ (u : List ℕ). OfEvent u w.alert) shown (rw (← ea) z)))) v.alert in
      let one : mode_cell w.mode ≡ 1 → Once (w.alert ∷ w.list) = λ y. once_list (v.once (em ∙ y)) ea en el in
      pass _ (
        rw no-owner,
        (
          lt-ltb w.owner word32 (omega arith),
          (
            lt-ltb w.clock 2 (omega arith),
            (
              lt-ltb w.timeout word64 (rw (← et) v.timeout),
              (short_not w.mode w.list (λ y. rw (← en) (v.listed.0 (em ∙ y))), (rw fit, (occ, (al, (repeat_no w.mode (w.alert ∷ w.list) one, tt))))),
            ),
          ),
        ),
      )
    where
      once_list : ((k : ℕ) → k < in_wait t p 5 → (in_wait t p (header_size + k) ≡ in_wait t p 6 → ⊥) × ((j : ℕ) → j < k → in_wait t p (header_size + j) ≡ in_wait t p (header_size + k) → ⊥))
          → in_wait t p 6 ≡ w.alert → in_wait t p 5 ≡ length w.list → ((k : ℕ) → k < length w.list → in_wait t p (header_size + k) ≡ get_or w.list k 0) → Once (w.alert ∷ w.list)
      once_list o ea en el j zero l m i = let z : ⊥ = omega arith in z
      once_list o ea en el zero (suc k) l m i = (o k (omega arith)).0 (el k (omega arith) ∙ sym i ∙ sym ea)
      once_list o ea en el (suc j) (suc k) l m i = (o k (omega arith)).1 j (omega arith) (el j (omega arith) ∙ i ∙ sym (el k (omega arith)))

  pub lines_valid : Valid (view t)
  lines_valid = record {
    places = view_places t;
    slots = view_slots t;
    objects = objects_shown;
    waits = λ w m. let r = shown_in w m in wait_shown r.0 w r.1;
    tickets = λ w m. let r = shown_in w m in let p : ℕ = r.0 in let a : ShownAt p w = r.1 in let e : in_wait t p 0 ≡ w.ticket = at_view p 0 ∙ ticket_is (view t) p w a.held in
        let n : (view t).next ≡ get_or t 0 0 = view_next t in let b : in_wait t p 0 < get_or t 0 0 = a.lines.below in let z : 1 ≤ in_wait t p 0 = a.taken in (omega arith, omega arith);
    distinct = at_distinct (view t).waits (λ i j u v l m e d q. let n = view_slots t in
        let a : ShownAt i u = shown_at i u (omega arith) e in let b : ShownAt j v = shown_at j v (omega arith) d in
        let k : i ≡ j = b.lines.alone i a.low (at_view i 0 ∙ ticket_is (view t) i u a.held ∙ q ∙ sym (at_view j 0 ∙ ticket_is (view t) j v b.held)) in let z : ⊥ = omega arith in z);
    started = rw (view_next t) c.next.0;
    bounded = rw (view_next t) c.next.1;
  }

-- BOTH WAYS
pub test_lines : (t : List ℕ) → valid_tables t ≡ true → ValidCells t
test_lines t e = let r = tables_valid t e in subst (λ (u : List ℕ). ValidCells u) (sym r.0) (valid_lines (view t) r.1)

pub lines_test : (t : List ℕ) → ValidCells t → valid_tables t ≡ true
lines_test t c = subst (λ (u : List ℕ). valid_tables u ≡ true) (sym (shown t c)) (encoded_valid (view t) (lines_valid t c))
