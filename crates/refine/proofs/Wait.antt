-- A fresh wait on the cells of a valid state is the library's step.
use mathlib.Core.Path.{◌≡◌, refl, ap, sym, ◌∙◌}
use mathlib.Core.Bool.{Bool, true, false, not, ◌&&◌, ◌||◌, not-not}
use mathlib.Core.List.{List, [], ◌∷◌, ◌++◌, append_assoc}
use mathlib.Core.Option.{none, some}
use Prim.Native.Nat.{ℕ, zero, suc, ◌+◌, ◌-◌, ◌≤◌, ◌<◌}
use native.Mathlib.Omega.{arith}
use native.Mathlib.Nat.{add_assoc, add-zero, zero-add, suc-add, add-suc}
use native.Mathlib.Numerals.{add-one}
use lib.ListN.{length, get_or, set, replicate, take, length-append}
use lib.Seq.{sets, take-append-add, get_or-set_other, set-get_or}
use lib.Dec.{eqb, ltb, leb}
use borrow.Author.Tests.{ltb-true, ltb-false, eqb-true, eqb-false, lt-ltb, le-ltb, le-leb, lt-leb, ne_eqb}
use Rattle.model.specs.Basics.{maybe, any_of, has_repeat, tabulate}
use Rattle.model.specs.Calls.{Operation, wait, Lent, least, list_too_short, repeats, wait_faults, time_up, new_wait, waits_full, enqueue, refusals, answers, admits, change}
use Rattle.model.specs.Layout.{header_size, mode_cell, wait_cells, encode}
use Rattle.model.specs.Sizes.{wait_places, max_listed, word64, tickets_end}
use Rattle.model.specs.Steps.{first_refusal}
use Rattle.model.specs.Waits.{Mode, any, all, Wait, WaitPlace, free, waiting, State, with_objects, with_waits, Grant, attempt, acquire_each, served_answer, with_next}
use Rattle.model.proofs.Logic.{by_bool, by_option, fault_free}
use Rattle.model.proofs.Valid.{Valid}
use Rattle.cells.specs.Waits.{wait_cell, next_ticket, ticket_at, has}
use Rattle.model.proofs.Cells.{tabulate_is, read_next, write_wait, by_place, holds, free_cell, Shaped, valid_shaped}
use Rattle.cells.specs.Calls.{answered, bad_wait, put_header, put_list, ticket_place, empty_wait, queue_cells, later_cells, wait_on_cells}
use Rattle.cells.specs.Fold.{search_from}
use Rattle.cells.specs.Attempt.{missed, try_list}
use Rattle.cells.specs.Validity.{occupied_at, too_few, occupied_list, repeated_list}
use Rattle.refine.proofs.Calls.{means, leaves, refused_is, accepted_is, plain, any_length}
use Rattle.refine.proofs.Fold.{all_occupied_is, has_is, repeated_is, search_is, fold_stores}
use Rattle.refine.proofs.Attempt.{granted, try_list_lem}
use Rattle.refine.proofs.Objects.{occupied_at_lem, event_at_lem}
use Rattle.refine.proofs.Waits.{ticket_at_lem, free_ticket, above_zero}

-- STORES
sets_more : (xs ys t : List ℕ) (i : ℕ) → sets t i (xs ++ ys) ≡ sets (sets t i xs) (i + length xs) ys
sets_more [] ys t i = rw (add-zero i)
sets_more (x ∷ xs) ys t i = sets_more xs ys (set t i x) (suc i) ∙ ap (λ (n : ℕ). sets (sets (set t i x) (suc i) xs) n ys) (suc-add i (length xs) ∙ sym (add-suc i (length xs)))

sets_after : (xs t : List ℕ) (i k : ℕ) → i + length xs ≤ k → get_or (sets t i xs) k 0 ≡ get_or t k 0
sets_after [] t i k l = refl
sets_after (x ∷ xs) t i k l = sets_after xs (set t i x) (suc i) k (omega arith) ∙ get_or-set_other t i k x 0 (λ e. let z : ⊥ = omega arith in z)

-- zeros stored where zeros stand
sets_zeros : (n : ℕ) (t : List ℕ) (i : ℕ) → ((k : ℕ) → k < n → get_or t (i + k) 0 ≡ 0) → sets t i (replicate n 0) ≡ t
sets_zeros zero t i h = refl
sets_zeros (suc n) t i h = let z : get_or t i 0 ≡ 0 = ap (λ (k : ℕ). get_or t k 0) (sym (add-zero i)) ∙ h 0 (omega arith) in
    let e : set t i 0 ≡ t = ap (λ (x : ℕ). set t i x) (sym z) ∙ set-get_or t i 0 in
    ap (λ (u : List ℕ). sets u (suc i) (replicate n 0)) e ∙ sets_zeros n t (suc i) (λ k l. ap (λ (j : ℕ). get_or t j 0) (suc-add i k ∙ sym (add-suc i k)) ∙ h (suc k) (omega arith))

take_zeros : (m n : ℕ) → m ≤ n → take m (replicate n 0) ≡ replicate {A = ℕ} m 0
take_zeros zero n l = refl
take_zeros (suc m) zero l = absurd (let z : ⊥ = omega arith in z)
take_zeros (suc m) (suc n) l = ap (λ (q : List ℕ). 0 ∷ q) (take_zeros m n (omega arith))

padded : (hs : List ℕ) → length hs ≤ max_listed → take max_listed (hs ++ replicate max_listed 0) ≡ hs ++ replicate (max_listed - length hs) 0
padded hs l = let e : max_listed ≡ length hs + (max_listed - length hs) = omega arith in
    ap (λ (n : ℕ). take n (hs ++ replicate max_listed 0)) e ∙ take-append-add hs (replicate max_listed 0) (max_listed - length hs)
    ∙ ap (λ (q : List ℕ). hs ++ q) (take_zeros (max_listed - length hs) max_listed (omega arith))

tabulated : (hs : List ℕ) → tabulate (length hs) (λ k. get_or hs k 0) ≡ hs
tabulated hs = tabulate_is 0 hs (length hs) (λ k. get_or hs k 0) refl (λ i l. refl)

-- QUEUING at a free place
abbrev front : Wait → List ℕ
front w = w.ticket ∷ mode_cell w.mode ∷ w.owner ∷ w.clock ∷ w.timeout ∷ length w.list ∷ w.alert ∷ []

pub put_front : (t : List ℕ) (p : ℕ) (w : Wait) → put_list (put_header t p w.ticket (mode_cell w.mode) w.owner w.clock w.timeout (length w.list) w.alert) p w.list ≡ sets t (wait_cell p) (front w ++ w.list)
unfolding put_list put_header
put_front t p w =
    let e1 : wait_cell p + 1 ≡ suc (wait_cell p) = omega arith in let e2 : wait_cell p + 2 ≡ suc (suc (wait_cell p)) = omega arith in let e3 : wait_cell p + 3 ≡ suc (suc (suc (wait_cell p))) = omega arith in
    let e4 : wait_cell p + 4 ≡ suc (suc (suc (suc (wait_cell p)))) = omega arith in let e5 : wait_cell p + 5 ≡ suc (suc (suc (suc (suc (wait_cell p))))) = omega arith in
    let e6 : wait_cell p + 6 ≡ suc (suc (suc (suc (suc (suc (wait_cell p)))))) = omega arith in
    fold_stores _ (wait_cell p + header_size) (length w.list) (λ k. get_or w.list k 0) ∙ rw (tabulated w.list, e1, e2, e3, e4, e5, e6) (sym (sets_more (front w) w.list t (wait_cell p)))

pub put_wait : (s : State) (p : ℕ) (w : Wait) → Shaped s → p < wait_places → get_or s.waits p free ≡ free → length w.list ≤ max_listed
    → sets (encode s) (wait_cell p) (front w ++ w.list) ≡ encode (with_waits s (set s.waits p (waiting w)))
unfolding wait_cells
put_wait s p w g l e n =
    let q = g.slots in let Z : List ℕ = replicate (max_listed - length w.list) 0 in let t : List ℕ = encode s in
    let m : length (front w ++ w.list) ≡ header_size + length w.list = length-append (front w) w.list in
    let z : sets (sets t (wait_cell p) (front w ++ w.list)) (wait_cell p + length (front w ++ w.list)) Z ≡ sets t (wait_cell p) (front w ++ w.list)
    = sets_zeros (max_listed - length w.list) (sets t (wait_cell p) (front w ++ w.list)) (wait_cell p + length (front w ++ w.list))
    (λ k b. sets_after (front w ++ w.list) t (wait_cell p) (wait_cell p + length (front w ++ w.list) + k) (omega arith)
    ∙ ap (λ (j : ℕ). get_or t j 0) (add_assoc (wait_cell p) (length (front w ++ w.list)) k) ∙ free_cell s p (length (front w ++ w.list) + k) g l e (omega arith)) in
    sym (write_wait s p (waiting w) g.places (omega arith) ∙ ap (λ (x : List ℕ). sets t (wait_cell p) (front w ++ x)) (padded w.list n)
    ∙ ap (sets t (wait_cell p)) (sym (append_assoc (front w) w.list Z)) ∙ sets_more (front w ++ w.list) Z t (wait_cell p) ∙ z)

-- the lowest free place is a search
abbrev is_free : WaitPlace → Bool
is_free free = true
is_free (waiting w) = false

search_full : (ws : List WaitPlace) (i : ℕ) (f : ℕ → Bool) → ((k : ℕ) → k < length ws → f (i + k) ≡ is_free (get_or ws k free)) → waits_full ws ≡ not (ltb (search_from f i (length ws)) (i + length ws))
unfolding waits_full search_from
search_full [] i f e = let z : ltb i (i + 0) ≡ false = le-ltb i (i + 0) (omega arith) in rw z
search_full (free ∷ ws) i f e = let a : f i ≡ true = ap f (sym (add-zero i)) ∙ e 0 (omega arith) in let z : ltb i (i + suc (length ws)) ≡ true = lt-ltb i (i + suc (length ws)) (omega arith) in rw (a, z)
search_full (waiting w ∷ ws) i f e = let a : f i ≡ false = ap f (sym (add-zero i)) ∙ e 0 (omega arith) in
    rw (a, add-suc i (length ws), ← (suc-add i (length ws))) (search_full ws (suc i) f (λ k l. ap f (suc-add i k ∙ sym (add-suc i k)) ∙ e (suc k) (omega arith)))

search_enqueue : (w : Wait) (ws : List WaitPlace) (i : ℕ) (f : ℕ → Bool) → ((k : ℕ) → k < length ws → f (i + k) ≡ is_free (get_or ws k free)) → enqueue w ws ≡ set ws (search_from f i (length ws) - i) (waiting w)
unfolding enqueue search_from
search_enqueue w [] i f e = refl
search_enqueue w (free ∷ ws) i f e = let a : f i ≡ true = ap f (sym (add-zero i)) ∙ e 0 (omega arith) in let z : i - i ≡ 0 = omega arith in rw (a, z)
search_enqueue w (waiting v ∷ ws) i f e = let a : f i ≡ false = ap f (sym (add-zero i)) ∙ e 0 (omega arith) in
    let b = (search_is f (suc i) (length ws)).low in let z : search_from f (suc i) (length ws) - i ≡ suc (search_from f (suc i) (length ws) - suc i) = omega arith in
    rw (a, z) (ap (λ (l : List WaitPlace). waiting v ∷ l) (search_enqueue w ws (suc i) f (λ k l. ap f (suc-add i k ∙ sym (add-suc i k)) ∙ e (suc k) (omega arith))))

pub next_cell : (s : State) (n : ℕ) → set (encode s) 0 n ≡ encode (with_next s n)
unfolding encode
next_cell s n = refl

module _ (s : State) (g : Valid s) where
  abbrev free_test : ℕ → Bool
  free_test p = eqb (ticket_at (encode s) p) 0

  free_test_lem : (k : ℕ) → k < length s.waits → free_test (0 + k) ≡ is_free (get_or s.waits k free)
  free_test_lem k l = let q = g.slots in let m : k < wait_places = omega arith in rw (zero-add k) (by_place (get_or s.waits k free)
      (λ e. let z = free_ticket s k g m e in rw (e, z))
      (λ w e. let n : eqb w.ticket 0 ≡ false = ne_eqb w.ticket 0 (λ z. let a : 0 < w.ticket = above_zero s k w g e in let y : ⊥ = omega arith in y) in rw (e, ticket_at_lem s k w (holds s k w g m e), n)))

  empty_full : ltb (empty_wait (encode s)) wait_places ≡ not (waits_full s.waits)
  unfolding ticket_place
  empty_full = let q = g.slots in rw (search_full s.waits 0 free_test free_test_lem, zero-add (length s.waits), q) (sym (not-not (ltb (search_from free_test 0 wait_places) wait_places)))

  empty_free : empty_wait (encode s) < wait_places → get_or s.waits (empty_wait (encode s)) free ≡ free
  unfolding ticket_place
  empty_free l = let p : ℕ = search_from free_test 0 wait_places in by_place (get_or s.waits p free) (λ e. e)
      (λ w e. absurd (let t : ticket_at (encode s) p ≡ 0 = eqb-true _ _ ((search_is free_test 0 wait_places).found (omega arith)) in let a : 0 < w.ticket = above_zero s p w g e in
      let u : ticket_at (encode s) p ≡ w.ticket = ticket_at_lem s p w (holds s p w g l e) in let y : ⊥ = omega arith in y))

  empty_enqueue : (w : Wait) → enqueue w s.waits ≡ set s.waits (empty_wait (encode s)) (waiting w)
  unfolding ticket_place
  empty_enqueue w = let q = g.slots in search_enqueue w s.waits 0 free_test free_test_lem
      ∙ ap (λ (n : ℕ). set s.waits n (waiting w)) (let z : search_from free_test 0 (length s.waits) - 0 ≡ search_from free_test 0 (length s.waits) = omega arith in z ∙ ap (search_from free_test 0) q)

  queue_is : (w : Wait) → w.ticket ≡ s.next → empty_wait (encode s) < wait_places → length w.list ≤ max_listed
      → queue_cells (encode s) (empty_wait (encode s)) (mode_cell w.mode) w.list w.owner w.clock w.alert w.timeout ≡ encode (with_next (with_waits s (enqueue w s.waits)) (suc s.next))
  unfolding queue_cells
  queue_is w t l n =
      let p : ℕ = empty_wait (encode s) in
      let pw : put_list (put_header (encode s) p s.next (mode_cell w.mode) w.owner w.clock w.timeout (length w.list) w.alert) p w.list ≡ encode (with_waits s (enqueue w s.waits))
      = ap (λ (k : ℕ). put_list (put_header (encode s) p k (mode_cell w.mode) w.owner w.clock w.timeout (length w.list) w.alert) p w.list) (sym t)
      ∙ put_front (encode s) p w ∙ put_wait s p w (valid_shaped s g) l (empty_free l) n ∙ ap (λ (ws : List WaitPlace). encode (with_waits s ws)) (sym (empty_enqueue w)) in
      rw (read_next s, pw, add-one s.next) (next_cell (with_waits s (enqueue w s.waits)) (suc s.next))

  -- ARGUMENTS
  few_is : (mode : Mode) (hs : List ℕ) → too_few (mode_cell mode) (length hs) ≡ list_too_short mode hs
  unfolding too_few
  few_is any hs = refl
  few_is all hs = refl

  repeats_is : (mode : Mode) (hs : List ℕ) (alert : ℕ) → (not (eqb (mode_cell mode) 0) && (has hs alert || repeated_list hs)) ≡ repeats mode (alert ∷ hs)
  unfolding has_repeat
  repeats_is any hs alert = refl
  repeats_is all hs alert = rw (has_is hs alert, repeated_is hs)

  bad_is : (mode : Mode) (hs : List ℕ) (o f p a : ℕ) → bad_wait (mode_cell mode) hs o f p a (encode s) ≡ any_of (wait_faults mode hs o f p a s.objects)
  unfolding bad_wait occupied_list
  bad_is mode hs o f p a = rw (few_is mode hs, all_occupied_is s.objects hs (λ k. occupied_at (encode s) (get_or hs k 0)) (λ k. occupied_at_lem s g.places (get_or hs k 0)), event_at_lem s g.places a, repeats_is mode hs a)

-- 64 bits hold one ticket more exactly where the next ticket is not the end
spent_is : (n : ℕ) → n < word64 → leb word64 (suc n) ≡ eqb n tickets_end
spent_is n l = by_bool (eqb n tickets_end)
    (λ y. let e : n ≡ tickets_end = eqb-true n tickets_end y in le-leb word64 (suc n) (omega arith) ∙ sym y)
    (λ f. let e : n ≡ tickets_end → ⊥ = eqb-false n tickets_end f in lt-leb word64 (suc n) (omega (arith, e)) ∙ sym f)

-- A WAIT
module _ (s : State) (g : Valid s) (mode : Mode) (hs : List ℕ) (o f p a time now : ℕ) (l : Lent) where
  abbrev op : Operation
  op = wait mode hs o f p a time now

  abbrev w : Wait
  w = new_wait mode hs o f a time s.next

  later_is : any_of (wait_faults mode hs o f p a s.objects) ≡ false → attempt s.objects w ≡ none → later_cells (mode_cell mode) hs o f a time now (encode s) l ≡ means s op l
  unfolding later_cells refusals first_refusal least change admits
  later_is ok miss = by_bool (time_up time now)
      (λ u. rw u (plain s l 5 0 0 ∙ (let c : answers 5 0 0 s ≡ admits w now s = rw (miss, u) in ap (leaves l) c) ∙ accepted_is s op l (rw (any_length l.wake, any_length l.buffer, ok, miss, u))))
      (λ u. by_bool (waits_full s.waits)
      (λ y. let e : ltb (empty_wait (encode s)) wait_places ≡ false = empty_full s g ∙ ap not y in rw (u, e) (refused_is s op l 7 (rw (any_length l.wake, any_length l.buffer, ok, miss, u, y))))
      (λ y. let e : ltb (empty_wait (encode s)) wait_places ≡ true = empty_full s g ∙ ap not y in let nt : next_ticket (encode s) + 1 ≡ suc s.next = ap (λ (n : ℕ). n + 1) (read_next s) ∙ add-one s.next in
      let sp : leb word64 (suc s.next) ≡ eqb s.next tickets_end = spent_is s.next g.bounded in
      by_bool (eqb s.next tickets_end)
      (λ z. rw (u, e, nt, sp, z) (refused_is s op l 8 (rw (any_length l.wake, any_length l.buffer, ok, miss, u, y, z))))
      (λ z. let q = queue_is s g w refl (ltb-true _ _ e) (ltb-false max_listed (length hs) (fault_free (wait_faults mode hs o f p a s.objects) ok 1)) in
      rw (u, e, nt, sp, z, q, read_next s) (plain (with_next (with_waits s (enqueue w s.waits)) (suc s.next)) l 11 0 s.next
      ∙ (let c : answers 11 0 s.next (with_next (with_waits s (enqueue w s.waits)) (suc s.next)) ≡ admits w now s = rw (miss, u) in ap (leaves l) c)
      ∙ accepted_is s op l (rw (any_length l.wake, any_length l.buffer, ok, miss, u, y, z))))))

  served_is : (t : Grant) → any_of (wait_faults mode hs o f p a s.objects) ≡ false → attempt s.objects w ≡ some t
      → answered (served_answer s.objects t) t.index 0 (encode (with_objects s (acquire_each o s.objects t.handles))) l ≡ means s op l
  unfolding refusals first_refusal least change admits
  served_is t ok e = plain (with_objects s (acquire_each o s.objects t.handles)) l (served_answer s.objects t) t.index 0
      ∙ (let c : answers (served_answer s.objects t) t.index 0 (with_objects s (acquire_each o s.objects t.handles)) ≡ admits w now s = rw e in ap (leaves l) c)
      ∙ accepted_is s op l (rw (any_length l.wake, any_length l.buffer, ok, e))

  pub wait_is : wait_on_cells (mode_cell mode) hs o f p a time now (encode s) l ≡ means s op l
  unfolding wait_on_cells refusals first_refusal least
  wait_is = rw (bad_is s g mode hs o f p a) (by_bool (any_of (wait_faults mode hs o f p a s.objects))
      (λ y. rw y (refused_is s op l 1 (rw (any_length l.wake, any_length l.buffer, y))))
      (λ ok. let t : try_list (encode s) (mode_cell mode) o a hs ≡ maybe (attempt s.objects w) (missed (encode s)) (granted s w) = try_list_lem s g.places w (fault_free (wait_faults mode hs o f p a s.objects) ok 7) in
      rw (ok, t) (by_option (attempt s.objects w)
      (λ e. rw e (later_is ok e))
      (λ k e. rw e (served_is k ok e)))))
