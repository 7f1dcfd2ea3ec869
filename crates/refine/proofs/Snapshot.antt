-- The snapshot's text read off the cells is the text of the state.
use mathlib.Core.Path.{◌≡◌, refl, ap, sym, ◌∙◌, subst}
use mathlib.Core.Bool.{Bool, true, false, not, cond}
use mathlib.Core.List.{List, [], ◌∷◌, ◌++◌, append_assoc, append-nil}
use mathlib.Core.Option.{none, some}
use mathlib.Core.Logic.{inl, inr, ⊎_elim}
use Prim.Native.Nat.{ℕ, zero, suc, ◌+◌, ◌≤◌, ◌<◌}
use native.Mathlib.Omega.{arith}
use native.Mathlib.Nat.{add_comm, add-zero, zero-add, le_antisymm, suc-add, add-suc}
use lib.ListN.{length, get_or}
use lib.Dec.{eqb, ltb, eqb-suc-zero}
use borrow.Author.Tests.{ltb-true, ltb-false, eqb-true, eqb-false, not-true, lt-ltb, le-ltb, ne_eqb}
use Rattle.model.specs.Basics.{bit, joined}
use Rattle.model.specs.Snapshot.{ascii, line, object_text, objects_text, object_count, mode_text, clock_text, wait_text, queue_from, snapshot_body, snapshot_text}
use Rattle.model.specs.Layout.{mode_cell, encode, distinct_tickets}
use Rattle.model.specs.Sizes.{object_places, wait_places}
use Rattle.model.specs.Objects.{Object, empty, semaphore, mutex, event, occupied}
use Rattle.model.specs.Notions.{◌is_in◌}
use Rattle.model.specs.Waits.{Mode, any, all, Wait, WaitPlace, free, waiting, State, object_at, oldest, any_waiting}
use Rattle.model.proofs.Waking.{each}
use Rattle.model.proofs.Logic.{by_bool, by_option, and_split, eqb_same}
use Rattle.model.proofs.Valid.{Valid, waiting_none}
use Rattle.model.proofs.Queue.{oldest_none, Oldest, oldest_some, count, count_length, count_le}
use Rattle.model.proofs.Cells.{read_next, by_place, Holds, holds}
use Rattle.cells.specs.Snapshot.{fields_text, objects_text_below, object_total, wait_total, list_text_below, wait_lines, wait_text_at, waits_text_from, body_of, snapshot_of}
use Rattle.cells.specs.Fold.{fold_below}
use Rattle.cells.specs.Objects.{fields_at}
use Rattle.cells.specs.Waits.{queued_at, next_wait}
use Rattle.refine.proofs.Fold.{fold_first}
use Rattle.refine.proofs.Objects.{fields_of, fields_at_lem}
use Rattle.refine.proofs.Waits.{ticket_at_lem, mode_at_lem, owner_at_lem, clock_at_lem, timeout_at_lem, alert_at_lem, list_of_lem, free_ticket, above_zero, Found, next_is}

-- OBJECTS
fields_text_lem : (h : ℕ) (x : Object) → fields_text h (fields_of x) ≡ object_text h x
unfolding fields_text object_text
fields_text_lem h empty = refl
fields_text_lem h (semaphore c m) = refl
fields_text_lem h (mutex o c a) = refl
fields_text_lem h (event s m) = refl

objects_fold : (xs : List Object) (h : ℕ) (f : ℕ → List ℕ) (text : List ℕ) → ((k : ℕ) → k < length xs → f k ≡ object_text (h + k) (get_or xs k empty))
    → fold_below (λ text p. text ++ f p) text (length xs) ≡ text ++ objects_text h xs
unfolding fold_below objects_text
objects_fold [] h f text e = sym (append-nil text)
objects_fold (x ∷ xs) h f text e = fold_first (λ text p. text ++ f p) text (length xs)
    ∙ objects_fold xs (suc h) (λ p. f (suc p)) (text ++ f 0) (λ k l. e (suc k) (omega arith) ∙ ap (λ (n : ℕ). object_text n (get_or xs k empty)) (add-suc h k ∙ sym (suc-add h k)))
    ∙ append_assoc text (f 0) (objects_text (suc h) xs)
    ∙ ap (λ (l : List ℕ). text ++ (l ++ objects_text (suc h) xs)) (e 0 (omega arith) ∙ ap (λ (n : ℕ). object_text n x) (add-zero h))

count_fold : (xs : List Object) (f : ℕ → ℕ) (a : ℕ) → ((k : ℕ) → k < length xs → f k ≡ bit (occupied (get_or xs k empty))) → fold_below (λ n p. n + f p) a (length xs) ≡ a + object_count xs
unfolding fold_below object_count
count_fold [] f a e = sym (add-zero a)
count_fold (x ∷ xs) f a e = fold_first (λ n p. n + f p) a (length xs) ∙ count_fold xs (λ p. f (suc p)) (a + f 0) (λ k l. e (suc k) (omega arith))
    ∙ (let q : f 0 ≡ bit (occupied x) = e 0 (omega arith) in omega arith)

occupied_above : (x : Object) → ltb 0 (fields_of x).kind ≡ occupied x
occupied_above empty = refl
occupied_above (semaphore c m) = refl
occupied_above (mutex o c a) = refl
occupied_above (event v m) = refl

module _ (s : State) (g : Valid s) where
  objects_text_lem : objects_text_below (encode s) object_places ≡ objects_text 1 s.objects
  unfolding objects_text_below
  objects_text_lem = let q = g.places in ap (λ (n : ℕ). fold_below (λ text p. text ++ fields_text (p + 1) (fields_at (encode s) p)) [] n) (sym q)
      ∙ objects_fold s.objects 1 (λ p. fields_text (p + 1) (fields_at (encode s) p)) []
      (λ k l. rw (fields_at_lem s k l) (fields_text_lem (k + 1) (object_at s.objects (suc k)) ∙ ap (λ (n : ℕ). object_text n (object_at s.objects (suc k))) (add_comm k 1)))

  object_total_lem : object_total (encode s) ≡ object_count s.objects
  unfolding object_total
  object_total_lem = let q = g.places in ap (λ (n : ℕ). fold_below (λ n p. n + bit (ltb 0 (fields_at (encode s) p).kind)) 0 n) (sym q)
      ∙ count_fold s.objects (λ p. bit (ltb 0 (fields_at (encode s) p).kind)) 0 (λ k l. rw (fields_at_lem s k l) (ap bit (occupied_above (object_at s.objects (suc k)))))
      ∙ zero-add (object_count s.objects)

-- WAITS
list_fold : (hs : List ℕ) (text : List ℕ) → fold_below (λ text k. text ++ line "obj=" (get_or hs k 0)) text (length hs) ≡ text ++ joined (line "obj=") hs
unfolding fold_below joined
list_fold [] text = sym (append-nil text)
list_fold (h ∷ hs) text = fold_first (λ text k. text ++ line "obj=" (get_or (h ∷ hs) k 0)) text (length hs) ∙ list_fold hs (text ++ line "obj=" h) ∙ append_assoc text (line "obj=" h) (joined (line "obj=") hs)

mode_text_lem : (m : Mode) → cond (eqb (mode_cell m) 0) (ascii "mode=any\n") (ascii "mode=all\n") ≡ mode_text m
mode_text_lem any = refl
mode_text_lem all = refl

clock_text_lem : (c : ℕ) → cond (eqb c 0) (ascii "clock=mono\n") (ascii "clock=real\n") ≡ clock_text c
clock_text_lem zero = refl
clock_text_lem (suc c) = rw (eqb-suc-zero c)

wait_text_lem : (s : State) (p : ℕ) (w : Wait) → length s.waits ≡ wait_places → Holds s p w → wait_text_at (encode s) p ≡ wait_text w
unfolding wait_text_at wait_lines wait_text list_text_below
wait_text_lem s p w q st = rw (ticket_at_lem s p w st, mode_at_lem s p w st, mode_text_lem w.mode, owner_at_lem s p w st, clock_at_lem s p w st, clock_text_lem w.clock, timeout_at_lem s p w st, alert_at_lem s p w st, list_of_lem s p w st q, list_fold w.list [])

waits_text : (n last : ℕ) (s : State) → Valid s → waits_text_from n (encode s) last ≡ joined wait_text (queue_from n last s.waits)
unfolding waits_text_from queue_from joined
waits_text zero last s g = refl
waits_text (suc n) last s g = ⊎_elim
    (λ (q : (ltb (next_wait (encode s) last) wait_places ≡ false) × (oldest (λ v. ltb last v.ticket) s.waits ≡ none)). let q0 = q.0 in let q1 = q.1 in rw (q0, q1))
    (λ (f : Found s (λ v. ltb last v.ticket) (next_wait (encode s) last)).
    let p : ℕ = next_wait (encode s) last in let w : Wait = f.wait in let k : oldest (λ v. ltb last v.ticket) s.waits ≡ some w = f.picked in
    let y : ltb p wait_places ≡ true = lt-ltb p wait_places f.low in let st : Holds s p w = holds s p w g f.low f.here in
    rw (y, k, ticket_at_lem s p w st, wait_text_lem s p w g.slots st, waits_text n w.ticket s g))
    (next_is s last g)

-- how many waits there are: by places, and by ticket
count_or : (f a b : Wait → Bool) (ws : List WaitPlace) → ((w : Wait) → w is_in ws → bit (f w) ≡ bit (a w) + bit (b w)) → count f ws ≡ count a ws + count b ws
unfolding count
count_or f a b [] h = refl
count_or f a b (free ∷ ws) h = count_or f a b ws h
count_or f a b (waiting w ∷ ws) h = let ih = count_or f a b ws (λ v m. h v (inr m)) in let q : bit (f w) ≡ bit (a w) + bit (b w) = h w (inl refl) in
    counted (f w) (count f ws) ∙ (let x = counted (a w) (count a ws) in let y = counted (b w) (count b ws) in omega arith)
  where
    counted : (t : Bool) (n : ℕ) → cond t (suc n) n ≡ bit t + n
    counted true n = omega arith
    counted false n = sym (zero-add n)

none_counted : (f : Wait → Bool) (ws : List WaitPlace) → ((w : Wait) → w is_in ws → f w ≡ false) → count f ws ≡ 0
unfolding count
none_counted f [] h = refl
none_counted f (free ∷ ws) h = none_counted f ws h
none_counted f (waiting w ∷ ws) h = rw (h w (inl refl)) (none_counted f ws (λ v m. h v (inr m)))

one_counted : (ws : List WaitPlace) (w : Wait) → distinct_tickets ws ≡ true → w is_in ws → count (λ v. eqb v.ticket w.ticket) ws ≡ 1
unfolding count distinct_tickets
one_counted [] w d m = absurd m
one_counted (free ∷ ws) w d m = one_counted ws w d m
one_counted (waiting u ∷ ws) w d m = let r = and_split (not (any_waiting (λ v. eqb v.ticket u.ticket) ws)) (distinct_tickets ws) d in
    let others : (v : Wait) → v is_in ws → eqb v.ticket u.ticket ≡ false = waiting_none (λ v. eqb v.ticket u.ticket) ws (not-true _ r.0) in ⊎_elim
    (λ (e : w ≡ u). subst (λ (x : Wait). count (λ v. eqb v.ticket x.ticket) (waiting u ∷ ws) ≡ 1) (sym e) (rw (eqb_same u.ticket, none_counted (λ v. eqb v.ticket u.ticket) ws others)))
    (λ (k : w is_in ws). let n : eqb u.ticket w.ticket ≡ false = ne_eqb u.ticket w.ticket (λ e. eqb-false w.ticket u.ticket (others w k) (sym e)) in rw n (one_counted ws w r.1 k)) m

bits_above : (last t v : ℕ) → last < t → (last < v → t ≤ v) → bit (ltb last v) ≡ bit (eqb v t) + bit (ltb t v)
bits_above last t v l h = by_bool (ltb last v)
    (λ y. let a : t ≤ v = h (ltb-true _ _ y) in by_bool (eqb v t)
    (λ e. let i : v ≡ t = eqb-true _ _ e in rw (y, e, le-ltb t v (omega arith)))
    (λ e. let i : v ≡ t → ⊥ = eqb-false _ _ e in rw (y, e, lt-ltb t v (omega arith))))
    (λ n. let a : v ≤ last = ltb-false _ _ n in rw (n, ne_eqb v t (λ e. let z : ⊥ = omega arith in z), le-ltb t v (omega arith)))

queue_counted : (n last : ℕ) (ws : List WaitPlace) → distinct_tickets ws ≡ true → count (λ v. ltb last v.ticket) ws ≤ n → length (queue_from n last ws) ≡ count (λ v. ltb last v.ticket) ws
unfolding queue_from
queue_counted zero last ws d l = omega arith
queue_counted (suc n) last ws d l = by_option (oldest (λ v. ltb last v.ticket) ws)
    (λ e. rw e (sym (none_counted (λ v. ltb last v.ticket) ws (oldest_none (λ v. ltb last v.ticket) ws e))))
    (λ w e. let o : Oldest (λ v. ltb last v.ticket) ws w = oldest_some (λ v. ltb last v.ticket) ws w e in
    let c : count (λ v. ltb last v.ticket) ws ≡ count (λ v. eqb v.ticket w.ticket) ws + count (λ v. ltb w.ticket v.ticket) ws
    = count_or (λ v. ltb last v.ticket) (λ v. eqb v.ticket w.ticket) (λ v. ltb w.ticket v.ticket) ws (λ v m. bits_above last w.ticket v.ticket (ltb-true _ _ o.passes) (λ h. o.lowest v m (lt-ltb _ _ h))) in
    let one : count (λ v. eqb v.ticket w.ticket) ws ≡ 1 = one_counted ws w d o.stands in
    rw e (let ih = queue_counted n w.ticket ws d (omega arith) in omega arith))

-- a place that holds a wait
abbrev is_waiting : WaitPlace → Bool
is_waiting free = false
is_waiting (waiting w) = true

place_fold : (ws : List WaitPlace) (f : ℕ → ℕ) (a : ℕ) → ((k : ℕ) → k < length ws → f k ≡ bit (is_waiting (get_or ws k free))) → fold_below (λ n p. n + f p) a (length ws) ≡ a + count each ws
unfolding fold_below count
place_fold [] f a e = sym (add-zero a)
place_fold (free ∷ ws) f a e = fold_first (λ n p. n + f p) a (length ws) ∙ place_fold ws (λ p. f (suc p)) (a + f 0) (λ k l. e (suc k) (omega arith)) ∙ (let q : f 0 ≡ 0 = e 0 (omega arith) in omega arith)
place_fold (waiting w ∷ ws) f a e = fold_first (λ n p. n + f p) a (length ws) ∙ place_fold ws (λ p. f (suc p)) (a + f 0) (λ k l. e (suc k) (omega arith)) ∙ (let q : f 0 ≡ 1 = e 0 (omega arith) in omega arith)

module _ (s : State) (g : Valid s) where
  queued_place : (k : ℕ) → k < length s.waits → bit (queued_at (encode s) k) ≡ bit (is_waiting (get_or s.waits k free))
  queued_place k l = let q = g.slots in let m : k < wait_places = omega arith in by_place (get_or s.waits k free)
      (λ e. let z = free_ticket s k g m e in rw (e, z))
      (λ w e. let y : ltb 0 w.ticket ≡ true = lt-ltb 0 w.ticket (above_zero s k w g e) in rw (e, ticket_at_lem s k w (holds s k w g m e), y))

  all_above : count (λ v. ltb 0 v.ticket) s.waits ≡ count each s.waits
  all_above = le_antisymm (count_le (λ v. ltb 0 v.ticket) each s.waits (λ w m t. refl)) (count_le each (λ v. ltb 0 v.ticket) s.waits (λ w m t. lt-ltb 0 w.ticket (g.tickets w m).0))

  wait_total_lem : wait_total (encode s) ≡ length (queue_from (length s.waits) 0 s.waits)
  unfolding wait_total
  wait_total_lem = let q = g.slots in ap (λ (n : ℕ). fold_below (λ n p. n + bit (queued_at (encode s) p)) 0 n) (sym q)
      ∙ place_fold s.waits (λ p. bit (queued_at (encode s) p)) 0 queued_place ∙ zero-add (count each s.waits) ∙ sym all_above
      ∙ sym (queue_counted (length s.waits) 0 s.waits g.distinct (count_length (λ v. ltb 0 v.ticket) s.waits))

  -- THE TEXT
  body_of_lem : body_of (encode s) ≡ snapshot_body s
  unfolding body_of snapshot_body
  body_of_lem = let q : wait_places ≡ length s.waits = sym g.slots in
      rw (read_next s, object_total_lem s g, objects_text_lem s g, wait_total_lem) (ap (λ (text : List ℕ). line "next=" s.next ++ (line "objects=" (object_count s.objects) ++ (objects_text 1 s.objects
      ++ (line "waits=" (length (queue_from (length s.waits) 0 s.waits)) ++ text)))) (ap (λ (n : ℕ). waits_text_from n (encode s) 0) q ∙ waits_text (length s.waits) 0 s g))

  pub snapshot_of_lem : snapshot_of (encode s) ≡ snapshot_text s
  unfolding snapshot_of snapshot_text
  snapshot_of_lem = rw body_of_lem
