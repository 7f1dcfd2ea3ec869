-- The validity check on cells that are 64-bit words is the test of the meaning, both ways, by way of document 01's list.
use mathlib.Core.Path.{◌≡◌, refl, ap, sym, ◌∙◌}
use mathlib.Core.Bool.{true, false, not, ◌||◌, ◌&&◌, cond}
use mathlib.Core.List.{List, [], ◌∷◌}
use mathlib.Core.Logic.{inl, inr, ⊎_elim}
use Prim.Native.Nat.{ℕ, ◌+◌, ◌-◌, ◌≤◌, ◌<◌}
use native.Mathlib.Omega.{arith}
use native.Mathlib.Nat.{add_assoc}
use lib.ListN.{length, get_or, drop, length-drop}
use lib.Seq.{get_or-take, length-take-le, get_or-drop}
use lib.Dec.{eqb, ltb, leb}
use borrow.Author.Tests.{ltb-true, ltb-false, leb-true, eqb-true, eqb-false, not-true, lt-ltb, le-ltb, le-leb, eq-eqb, ne_eqb}
use Rattle.model.specs.Basics.{bit, member}
use Rattle.model.specs.Layout.{header_size, wait_size, table_length, in_object, in_wait, valid_tables}
use Rattle.model.specs.Sizes.{object_places, wait_places, max_listed, word32, word64}
use Rattle.model.specs.Objects.{never_signaled}
use Rattle.model.specs.ValidCells.{Occupied, OfEvent, ValidObject, ValidWait, ValidCells}
use Rattle.model.proofs.Logic.{by_bool, clash, same_tests, or_left, or_right, or_split, passed, pass, member_at, at_member}
use Rattle.model.proofs.Literal.{same_zero, zero_same, has_maximum, maximum_has, by_number, repeat_once, once_repeat, test_lines, lines_test}
use Rattle.cells.specs.Waits.{wait_cell, ticket_at, mode_at, owner_at, clock_at, count_at, alert_at, list_of, has}
use Rattle.cells.specs.Objects.{Fields, no_fields, fields_at, named}
use Rattle.cells.specs.Validity.{valid_fields, occupied_at, event_at, too_few, occupied_list, repeated_list, unused_zero, alone_at, valid_queued, valid_free, valid_place, valid_cells}
use Rattle.refine.proofs.Fold.{all_at_lem, all_intro, has_is, repeated_is}

-- every cell is a 64-bit word
abbrev pub Words : List ℕ → Type 0
Words t = (i : ℕ) → get_or t i 0 < word64

-- OBJECTS
lines_to : (x : Fields) → valid_fields x ≡ true → ValidObject x.kind x.count x.owner x.attribute
unfolding valid_fields
lines_to x e = by_bool (eqb x.kind 0)
    (λ y0. let (t0, (t1, (t2, r))) = passed (eqb x.count 0 ∷ eqb x.owner 0 ∷ eqb x.attribute 0 ∷ []) (rw y0 at e) in let k : x.kind ≡ 0 = eqb-true _ _ y0 in record {
      kinds = omega arith;
      zeros = λ q. (eqb-true _ _ t0, eqb-true _ _ t1, eqb-true _ _ t2);
      semaphore = λ q. absurd (let z : ⊥ = omega arith in z);
      maximum = λ q. absurd (let z : ⊥ = omega arith in z);
      mutex = λ q. absurd (let z : ⊥ = omega arith in z);
      unowned = λ q. absurd (let z : ⊥ = omega arith in z);
      abandoned = λ q. absurd (let z : ⊥ = omega arith in z);
      event = λ q. absurd (let z : ⊥ = omega arith in z);
    })
    (λ n0. by_bool (eqb x.kind 1)
    (λ y1. let (t0, (t1, (t2, (t3, r)))) = passed (leb x.count x.attribute ∷ ltb x.attribute word32 ∷ not (never_signaled x.attribute) ∷ eqb x.owner 0 ∷ []) (rw (n0, y1) at e) in let k : x.kind ≡ 1 = eqb-true _ _ y1 in record {
      kinds = omega arith;
      zeros = λ q. absurd (let z : ⊥ = omega arith in z);
      semaphore = λ q. (leb-true _ _ t0, ltb-true _ _ t1, eqb-true _ _ t3);
      maximum = λ q. has_maximum x.attribute t2;
      mutex = λ q. absurd (let z : ⊥ = omega arith in z);
      unowned = λ q. absurd (let z : ⊥ = omega arith in z);
      abandoned = λ q. absurd (let z : ⊥ = omega arith in z);
      event = λ q. absurd (let z : ⊥ = omega arith in z);
    })
    (λ n1. by_bool (eqb x.kind 2)
    (λ y2. let (t0, (t1, (t2, (t3, (t4, r))))) = passed (ltb x.owner word32 ∷ ltb x.count word32 ∷ leb x.attribute 1 ∷ eqb (bit (eqb x.owner 0)) (bit (eqb x.count 0)) ∷ (eqb x.attribute 0 || eqb x.owner 0) ∷ []) (rw (n0, n1, y2) at e) in
    let k : x.kind ≡ 2 = eqb-true _ _ y2 in record {
      kinds = omega arith;
      zeros = λ q. absurd (let z : ⊥ = omega arith in z);
      semaphore = λ q. absurd (let z : ⊥ = omega arith in z);
      maximum = λ q. absurd (let z : ⊥ = omega arith in z);
      mutex = λ q. (ltb-true _ _ t0, ltb-true _ _ t1, leb-true _ _ t2);
      unowned = λ q. same_zero x.owner x.count t3;
      abandoned = λ q a. eqb-true _ _ (let f : eqb x.attribute 0 ≡ false = ne_eqb x.attribute 0 (λ z. let y : ⊥ = omega arith in y) in rw f at t4);
      event = λ q. absurd (let z : ⊥ = omega arith in z);
    })
    (λ n2. by_bool (eqb x.kind 3)
    (λ y3. let (t0, (t1, (t2, r))) = passed (leb x.count 1 ∷ leb x.attribute 1 ∷ eqb x.owner 0 ∷ []) (rw (n0, n1, n2, y3) at e) in let k : x.kind ≡ 3 = eqb-true _ _ y3 in record {
      kinds = omega arith;
      zeros = λ q. absurd (let z : ⊥ = omega arith in z);
      semaphore = λ q. absurd (let z : ⊥ = omega arith in z);
      maximum = λ q. absurd (let z : ⊥ = omega arith in z);
      mutex = λ q. absurd (let z : ⊥ = omega arith in z);
      unowned = λ q. absurd (let z : ⊥ = omega arith in z);
      abandoned = λ q. absurd (let z : ⊥ = omega arith in z);
      event = λ q. (leb-true _ _ t0, leb-true _ _ t1, eqb-true _ _ t2);
    })
    (λ n3. clash (let q : false ≡ true = rw (n0, n1, n2, n3) at e in q) refl))))

lines_from : (x : Fields) → ValidObject x.kind x.count x.owner x.attribute → valid_fields x ≡ true
unfolding valid_fields
lines_from x v = by_number x.kind v.kinds
    (λ e. let r = v.zeros e in rw e (pass _ (eq-eqb _ _ r.0, (eq-eqb _ _ r.1, (eq-eqb _ _ r.2, tt)))))
    (λ e. let r = v.semaphore e in rw e (pass _ (le-leb _ _ r.0, (lt-ltb _ _ r.1, (maximum_has _ (v.maximum e), (eq-eqb _ _ r.2, tt))))))
    (λ e. let r = v.mutex e in let u = v.unowned e in rw e (pass _ (
      lt-ltb _ _ r.0,
      (
        lt-ltb _ _ r.1,
        (
          le-leb _ _ r.2,
          (
            zero_same x.owner x.count u.0 u.1,
            (
              by_bool (eqb x.attribute 0) (λ y. or_left (eqb x.attribute 0) _ y) (λ n. let f : x.attribute ≡ 0 → ⊥ = eqb-false _ _ n in let l : x.attribute ≤ 1 = r.2 in
                  or_right (eqb x.attribute 0) (eqb x.owner 0) (eq-eqb _ _ (v.abandoned e (omega arith)))),
              tt,
            ),
          ),
        ),
      ),
    )))
    (λ e. let r = v.event e in rw e (pass _ (le-leb _ _ r.0, (le-leb _ _ r.1, (eq-eqb _ _ r.2, tt)))))

-- HANDLES
named_place : (t : List ℕ) (h : ℕ) → 1 ≤ h → h ≤ object_places → named t h ≡ fields_at t (h - 1)
unfolding named
named_place t h l b = rw (ne_eqb h 0 (λ z. let w : ⊥ = omega arith in w), le-ltb object_places h b)

handle_of : {P : Type 0} (t : List ℕ) (h : ℕ) → (named t h ≡ no_fields → P) → (1 ≤ h → h ≤ object_places → P) → P
unfolding named
handle_of t h f g = by_bool (eqb h 0) (λ y. f (rw y)) (λ n. by_bool (ltb object_places h) (λ y. f (rw (n, y)))
    (λ m. let z : h ≡ 0 → ⊥ = eqb-false h 0 n in g (omega arith) (ltb-false object_places h m)))

occupied_to : (t : List ℕ) (h : ℕ) → occupied_at t h ≡ true → Occupied t h
unfolding occupied_at fields_at
occupied_to t h e = handle_of t h (λ q. clash (let y : false ≡ true = rw q at e in y) refl)
    (λ l b. record { low = l; high = b; kind = λ z. let k : 0 < in_object t (h - 1) 0 = ltb-true 0 _ (rw (named_place t h l b) at e) in let y : ⊥ = omega arith in y })

occupied_from : (t : List ℕ) (h : ℕ) → Occupied t h → occupied_at t h ≡ true
unfolding occupied_at fields_at
occupied_from t h o = let z = o.kind in rw (named_place t h o.low o.high) (lt-ltb 0 (in_object t (h - 1) 0) (omega arith))

event_to : (t : List ℕ) (h : ℕ) → event_at t h ≡ true → OfEvent t h
unfolding event_at fields_at
event_to t h e = handle_of t h (λ q. clash (let y : false ≡ true = rw q at e in y) refl)
    (λ l b. record { low = l; high = b; kind = eqb-true _ _ (rw (named_place t h l b) at e) })

event_from : (t : List ℕ) (h : ℕ) → OfEvent t h → event_at t h ≡ true
unfolding event_at fields_at
event_from t h o = rw (named_place t h o.low o.high) (eq-eqb _ _ o.kind)

-- THE LIST OF A PLACE, whatever its cells
module _ (t : List ℕ) (size : length t ≡ table_length) (p : ℕ) (l : p < wait_places) where
  count_low : count_at t p ≤ max_listed
  unfolding count_at
  count_low = by_bool (leb (in_wait t p 5) max_listed) (λ y. rw y (leb-true _ _ y)) (λ n. rw n (omega arith))

  list_room : wait_cell p + header_size + count_at t p ≤ length t
  list_room = let c = count_low in omega arith

  pub list_length : length (list_of t p) ≡ count_at t p
  unfolding list_of
  list_length = let r = list_room in let d : length (drop (wait_cell p + header_size) t) ≡ length t - (wait_cell p + header_size) = length-drop (wait_cell p + header_size) t in
      length-take-le (count_at t p) (drop (wait_cell p + header_size) t) (omega arith)

  pub list_at : (k : ℕ) → k < count_at t p → get_or (list_of t p) k 0 ≡ in_wait t p (header_size + k)
  unfolding list_of
  list_at k b = get_or-take (count_at t p) (drop (wait_cell p + header_size) t) k 0 b ∙ get_or-drop (wait_cell p + header_size) t k 0 ∙ ap (λ (j : ℕ). get_or t j 0) (add_assoc (wait_cell p) header_size k)

count_cell : (t : List ℕ) (p : ℕ) → in_wait t p 5 ≤ max_listed → count_at t p ≡ in_wait t p 5
unfolding count_at
count_cell t p l = rw (le-leb _ _ l)

-- WAIT PLACES
abbrev Checked : List ℕ → Type 0
Checked t = (length t ≡ table_length) × (0 < get_or t 0 0) × ((p : ℕ) → p < object_places → valid_fields (fields_at t p) ≡ true) × ((p : ℕ) → p < wait_places → valid_place t p ≡ true)

checked : (t : List ℕ) → valid_cells t ≡ true → Checked t
unfolding valid_cells
checked t e = let (t0, (t1, (t2, (t3, r)))) = passed _ e in (eqb-true _ _ t0, ltb-true _ _ t1, all_at_lem (λ p. valid_fields (fields_at t p)) object_places t2, all_at_lem (valid_place t) wait_places t3)

-- asked of the places before, so of all
alone_all : (t : List ℕ) → Checked t → (p : ℕ) → p < wait_places → (in_wait t p 0 ≡ 0 → ⊥) → (q : ℕ) → q < wait_places → in_wait t q 0 ≡ in_wait t p 0 → q ≡ p
unfolding valid_place valid_queued alone_at ticket_at
alone_all t c p l z q m e = by_bool (ltb q p)
    (λ y. absurd (apart p l z q (ltb-true _ _ y) e))
    (λ n. by_bool (ltb p q) (λ y. absurd (apart q m (λ i. z (sym e ∙ i)) p (ltb-true _ _ y) (sym e))) (λ k. let a : p ≤ q = ltb-false _ _ n in let b : q ≤ p = ltb-false _ _ k in omega arith))
  where
    apart : (p : ℕ) → p < wait_places → (in_wait t p 0 ≡ 0 → ⊥) → (q : ℕ) → q < p → in_wait t q 0 ≡ in_wait t p 0 → ⊥
    apart p l z q b e = let (t0, (t1, r)) = passed _ (rw (ne_eqb (in_wait t p 0) 0 z) at (c.3 p l)) in
        eqb-false (in_wait t q 0) (in_wait t p 0) (not-true _ (all_at_lem (λ q. not (eqb (in_wait t q 0) (in_wait t p 0))) p t1 q b)) e

wait_to : (t : List ℕ) → Words t → Checked t → (p : ℕ) → p < wait_places → (in_wait t p 0 ≡ 0 → ⊥) → ValidWait t p
unfolding valid_place valid_queued occupied_list unused_zero too_few ticket_at mode_at owner_at clock_at alert_at
wait_to t words c p l z = let (t0, (t1, (t2, (t3, (t4, (t5, (t6, (t7, (t8, (t9, (t10, (t11, r)))))))))))) = passed _ (rw (ne_eqb (in_wait t p 0) 0 z) at (c.3 p l)) in
    let n : in_wait t p 5 ≤ max_listed = leb-true _ _ t6 in
    let cn : count_at t p ≡ in_wait t p 5 = count_cell t p n in
    let ln : length (list_of t p) ≡ count_at t p = list_length t c.0 p l in
    record {
      owner = (ltb-true _ _ t3, ltb-true _ _ t4);
      below = ltb-true _ _ t0;
      alone = alone_all t c p l z;
      listed = (λ m. let q : (not (eqb (in_wait t p 1) 0) && eqb (length (list_of t p)) 0) ≡ false = not-true _ t7 in let z : length (list_of t p) ≡ 0 → ⊥ = eqb-false _ _ (rw m at q) in omega arith, n);
      occupied = λ k b. rw (← (list_at t c.0 p l k (omega arith))) (occupied_to t (get_or (list_of t p) k 0) (all_at_lem (λ i. occupied_at t (get_or (list_of t p) i 0)) (length (list_of t p)) t8 k (omega arith)));
      unused = λ k b u. let q : in_wait t p (header_size + count_at t p + (k - count_at t p)) ≡ 0 = eqb-true _ _ (all_at_lem (λ k. eqb (in_wait t p (header_size + count_at t p + k)) 0) (max_listed - count_at t p) t9 (k - count_at t p) (omega arith)) in
          let i : header_size + k ≡ header_size + count_at t p + (k - count_at t p) = omega arith in rw i q;
      alert = by_bool (eqb (in_wait t p 6) 0) (λ y. inl (eqb-true _ _ y)) (λ f. inr (event_to t (in_wait t p 6) (rw f at t10)));
      mode = leb-true _ _ t2;
      clock = leb-true _ _ t5;
      timeout = words _;
      once = λ m k b. let b' : k < count_at t p = omega arith in
          let d : (has (list_of t p) (in_wait t p 6) || repeated_list (list_of t p)) ≡ false = not-true _ (let q : (eqb (in_wait t p 1) 0 || not (has (list_of t p) (in_wait t p 6) || repeated_list (list_of t p))) ≡ true = t11 in rw m at q) in
          let d₂ = or_split (has (list_of t p) (in_wait t p 6)) (repeated_list (list_of t p)) d in (
            λ e. clash (at_member (in_wait t p 6) (list_of t p) k (omega arith) (list_at t c.0 p l k b' ∙ e)) (sym (has_is (list_of t p) (in_wait t p 6)) ∙ d₂.0),
            λ j a e. repeat_once (list_of t p) (sym (repeated_is (list_of t p)) ∙ d₂.1) j k a (omega arith) (list_at t c.0 p l j (omega arith) ∙ e ∙ sym (list_at t c.0 p l k b')),
          );
    }

cells_lines : (t : List ℕ) → Words t → valid_cells t ≡ true → ValidCells t
unfolding valid_place valid_free ticket_at fields_at
cells_lines t words e = let c = checked t e in record {
  size = c.0;
  next = (c.1, words 0);
  objects = λ p l. lines_to (fields_at t p) (c.2 p l);
  free = λ p l z j b. eqb-true _ _ (all_at_lem (λ j. eqb (in_wait t p j) 0) wait_size (let q : cond (eqb (in_wait t p 0) 0) (valid_free t p) (valid_queued t p) ≡ true = c.3 p l in rw (eq-eqb _ _ z) at q) j b);
  queued = wait_to t words c;
}

wait_from_lem : (t : List ℕ) → length t ≡ table_length → (p : ℕ) → p < wait_places → ValidWait t p → valid_queued t p ≡ true
unfolding valid_queued occupied_list unused_zero too_few alone_at ticket_at mode_at owner_at clock_at alert_at
wait_from_lem t size p l v =
    let n1 : in_wait t p 5 ≤ max_listed = v.listed.1 in
    let cn : count_at t p ≡ in_wait t p 5 = count_cell t p n1 in let ln : length (list_of t p) ≡ count_at t p = list_length t size p l in
    let once : in_wait t p 1 ≡ 1 → (has (list_of t p) (in_wait t p 6) ≡ false) × (repeated_list (list_of t p) ≡ false) = λ m. (
      has_is (list_of t p) (in_wait t p 6) ∙ by_bool (member (in_wait t p 6) (list_of t p))
          (λ y. let r = member_at (in_wait t p 6) (list_of t p) y in let b : r.0 < length (list_of t p) = r.1 in absurd ((v.once m r.0 (omega arith)).0 (sym (list_at t size p l r.0 (omega arith)) ∙ r.2))) (λ f. f),
      repeated_is (list_of t p) ∙ once_repeat (list_of t p) (λ j k a b e. (v.once m k (omega arith)).1 j a (sym (list_at t size p l j (omega arith)) ∙ e ∙ list_at t size p l k (omega arith))),
    ) in
    let m : in_wait t p 1 ≤ 1 = v.mode in
    let enough : (not (eqb (in_wait t p 1) 0) && eqb (length (list_of t p)) 0) ≡ false = by_bool (eqb (in_wait t p 1) 0) (λ y. rw y)
    (λ f. let z : in_wait t p 1 ≡ 0 → ⊥ = eqb-false _ _ f in let a : 1 ≤ in_wait t p 5 = v.listed.0 (omega arith) in rw (f, ne_eqb (length (list_of t p)) 0 (λ z. let y : ⊥ = omega arith in y))) in
    let last : (eqb (in_wait t p 1) 0 || not (has (list_of t p) (in_wait t p 6) || repeated_list (list_of t p))) ≡ true = by_bool (eqb (in_wait t p 1) 0) (λ y. rw y)
    (λ f. let z : in_wait t p 1 ≡ 0 → ⊥ = eqb-false _ _ f in let o = once (omega arith) in let o0 = o.0 in let o1 = o.1 in rw (f, o0, o1)) in
    pass _ (
      lt-ltb _ _ v.below,
      (
        all_intro (λ q. not (eqb (in_wait t q 0) (in_wait t p 0))) p (λ q b. let d : eqb (in_wait t q 0) (in_wait t p 0) ≡ false = ne_eqb (in_wait t q 0) (in_wait t p 0) (λ e. let i : q ≡ p = v.alone q (omega arith) e in let y : ⊥ = omega arith in y) in rw d),
        (
          le-leb _ _ m,
          (
            lt-ltb _ _ v.owner.0,
            (
              lt-ltb _ _ v.owner.1,
              (
                le-leb _ _ v.clock,
                (
                  le-leb _ _ n1,
                  (
                    rw enough,
                    (
                      all_intro (λ i. occupied_at t (get_or (list_of t p) i 0)) (length (list_of t p)) (λ k b. rw (list_at t size p l k (omega arith)) (occupied_from t (in_wait t p (header_size + k)) (v.occupied k (omega arith)))),
                      (
                        all_intro (λ k. eqb (in_wait t p (header_size + count_at t p + k)) 0) (max_listed - count_at t p) (λ k b. let i : header_size + count_at t p + k ≡ header_size + (count_at t p + k) = omega arith in
                            eq-eqb (in_wait t p (header_size + count_at t p + k)) 0 (rw i (v.unused (count_at t p + k) (omega arith) (omega arith)))),
                        (⊎_elim (λ e. or_left _ _ (eq-eqb _ _ e)) (λ e. or_right (eqb (in_wait t p 6) 0) _ (event_from t (in_wait t p 6) e)) v.alert, (last, tt)),
                      ),
                    ),
                  ),
                ),
              ),
            ),
          ),
        ),
      ),
    )

lines_cells : (t : List ℕ) → ValidCells t → valid_cells t ≡ true
unfolding valid_cells valid_place valid_free ticket_at fields_at
lines_cells t v = let z = v.size in pass _ (
  eq-eqb _ _ z,
  (
    lt-ltb _ _ v.next.0,
    (
      all_intro (λ p. valid_fields (fields_at t p)) object_places (λ p l. lines_from (fields_at t p) (v.objects p l)),
      (
        all_intro (valid_place t) wait_places (λ p l. by_bool (eqb (in_wait t p 0) 0)
            (λ y. rw y (all_intro (λ j. eqb (in_wait t p j) 0) wait_size (λ j b. eq-eqb _ _ (v.free p l (eqb-true _ _ y) j b))))
            (λ n. rw n (wait_from_lem t z p l (v.queued p l (eqb-false _ _ n))))),
        tt,
      ),
    ),
  ),
)

-- THE CHECK is the test of the meaning
pub valid_cells_lem : (t : List ℕ) → Words t → valid_cells t ≡ valid_tables t
valid_cells_lem t words = same_tests (valid_cells t) (valid_tables t)
    (λ e. lines_test t (cells_lines t words e))
    (λ e. lines_cells t (test_lines t e))

-- what valid tables give a reader: the length, and objects of 32-bit numbers
pub valid_length : (t : List ℕ) → valid_cells t ≡ true → length t ≡ table_length
valid_length t e = (checked t e).0

abbrev pub Small : Fields → Type 0
Small x = (x.count < word32) × (x.owner < word32) × (x.attribute < word32)

fields_small : (x : Fields) → ValidObject x.kind x.count x.owner x.attribute → Small x
fields_small x v = by_bool (eqb x.kind 0) (λ y. let r = v.zeros (eqb-true _ _ y) in let a : x.count ≡ 0 = r.0 in let b : x.owner ≡ 0 = r.1 in let c : x.attribute ≡ 0 = r.2 in (omega arith, omega arith, omega arith))
    (λ n₀. by_bool (eqb x.kind 1) (λ y. let r = v.semaphore (eqb-true _ _ y) in let a : x.count ≤ x.attribute = r.0 in let b : x.attribute < word32 = r.1 in let c : x.owner ≡ 0 = r.2 in (omega arith, omega arith, omega arith))
    (λ n₁. by_bool (eqb x.kind 2) (λ y. let r = v.mutex (eqb-true _ _ y) in let a : x.owner < word32 = r.0 in let b : x.count < word32 = r.1 in let c : x.attribute ≤ 1 = r.2 in (b, a, omega arith))
    (λ n₂. let k : x.kind ≡ 3 = kind_left x.kind v.kinds (eqb-false _ _ n₀) (eqb-false _ _ n₁) (eqb-false _ _ n₂) in let r = v.event k in let a : x.count ≤ 1 = r.0 in let b : x.attribute ≤ 1 = r.1 in let c : x.owner ≡ 0 = r.2 in (omega arith, omega arith, omega arith))))
  where
    kind_left : (k : ℕ) → k ≤ 3 → (k ≡ 0 → ⊥) → (k ≡ 1 → ⊥) → (k ≡ 2 → ⊥) → k ≡ 3
    kind_left k l a b c = omega (arith, a, b, c)

named_small : (t : List ℕ) (h : ℕ) → valid_cells t ≡ true → Small (named t h)
named_small t h e = handle_of t h (λ z. rw z (omega arith, omega arith, omega arith)) (λ a b. rw (named_place t h a b) (fields_small (fields_at t (h - 1)) (lines_to (fields_at t (h - 1)) ((checked t e).2 (h - 1) (omega arith)))))

pub small_of : (t : List ℕ) (h : ℕ) (x : Fields) → x ≡ named t h → valid_cells t ≡ true → Small x
small_of t h x o v = rw o (named_small t h v)
