-- Wait places: the accessors, the list and the names, leaving, and the oldest wait that passes a test.
use mathlib.Core.Path.{◌≡◌, refl, ap, sym, ◌∙◌}
use mathlib.Core.Bool.{Bool, true, false, or-false}
use mathlib.Core.List.{List, [], ◌∷◌}
use mathlib.Core.Option.{none, some}
use mathlib.Core.Logic.{◌⊎◌, inl, inr}
use Prim.Native.Nat.{ℕ, zero, suc, ◌+◌, ◌-◌, ◌≤◌, ◌<◌}
use native.Mathlib.Omega.{arith}
use native.Mathlib.Nat.{add_assoc, le_refl}
use lib.ListN.{length, get_or, take, drop, length-drop}
use lib.Seq.{get_or-take, length-take-le, ext_get_or, get_or-drop}
use lib.Dec.{ltb}
use borrow.Author.Tests.{ltb-true, ltb-false, lt-ltb, le-ltb, le-leb}
use Rattle.model.specs.Basics.{member}
use Rattle.model.specs.Layout.{header_size, wait_size, table_length, mode_cell, wait_cells, encode, in_wait, distinct_tickets}
use Rattle.model.specs.Sizes.{wait_places, max_listed}
use Rattle.model.specs.Waits.{Wait, WaitPlace, free, waiting, State, with_waits, dequeue, oldest, any_waiting, named_by, concerned_by}
use Rattle.model.proofs.Logic.{by_bool, by_option, is_some, clash, same_tests}
use Rattle.model.proofs.Rules.{due}
use Rattle.model.proofs.Valid.{Valid, waiting_none, distinct_tickets_lem}
use Rattle.model.proofs.Queue.{Oldest, oldest_some, oldest_is, oldest_is_none}
use Rattle.cells.specs.Waits.{wait_cell, ticket_at, mode_at, owner_at, clock_at, timeout_at, count_at, alert_at, list_of, names_of, names_at, clear_wait, better, lowest, next_wait}
use Rattle.model.proofs.Cells.{valid_shaped, encode_length, at_in, dequeue_at, write_wait, in_at, by_place, Holds, holds, free_cell, ticket_is, mode_is, owner_is, clock_is, timeout_is, count_is, alert_is, list_is}
use Rattle.cells.specs.Calls.{busy_at}
use Rattle.cells.specs.Fold.{fold_below, some_below}
use Rattle.cells.specs.Walk.{due_at}
use Rattle.refine.proofs.Fold.{some_at, some_intro, has_is, fold_clears}

module _ (s : State) (p : ℕ) (w : Wait) (g : Holds s p w) where
  pub ticket_at_lem : ticket_at (encode s) p ≡ w.ticket
  unfolding ticket_at
  ticket_at_lem = ticket_is s p w g

  pub mode_at_lem : mode_at (encode s) p ≡ mode_cell w.mode
  unfolding mode_at
  mode_at_lem = mode_is s p w g

  pub owner_at_lem : owner_at (encode s) p ≡ w.owner
  unfolding owner_at
  owner_at_lem = owner_is s p w g

  pub clock_at_lem : clock_at (encode s) p ≡ w.clock
  unfolding clock_at
  clock_at_lem = clock_is s p w g

  pub timeout_at_lem : timeout_at (encode s) p ≡ w.timeout
  unfolding timeout_at
  timeout_at_lem = timeout_is s p w g

  pub alert_at_lem : alert_at (encode s) p ≡ w.alert
  unfolding alert_at
  alert_at_lem = alert_is s p w g

  pub count_at_lem : count_at (encode s) p ≡ length w.list
  unfolding count_at
  count_at_lem = rw (count_is s p w g, le-leb (length w.list) max_listed g.fits)

  -- the cells of a place, as far as they reach
  room : (j : ℕ) → j ≤ wait_size → length s.waits ≡ wait_places → wait_cell p + j ≤ length (encode s)
  room j l q = let i : p < length s.waits = g.inside in let n : length (encode s) ≡ table_length = encode_length s g.full q in omega arith

  part_is : (b n : ℕ) (xs : List ℕ) → length s.waits ≡ wait_places → b + n ≤ wait_size → length xs ≡ n → ((k : ℕ) → k < n → in_wait (encode s) p (b + k) ≡ get_or xs k 0)
      → take n (drop (wait_cell p + b) (encode s)) ≡ xs
  part_is b n xs q l e h =
      let r : wait_cell p + (b + n) ≤ length (encode s) = room (b + n) l q in
      let d : length (drop (wait_cell p + b) (encode s)) ≡ length (encode s) - (wait_cell p + b) = length-drop (wait_cell p + b) (encode s) in
      let m : length (take n (drop (wait_cell p + b) (encode s))) ≡ n = length-take-le n (drop (wait_cell p + b) (encode s)) (omega arith) in
      ext_get_or 0 (take n (drop (wait_cell p + b) (encode s))) xs (m ∙ sym e)
      (λ k i. let c : k < n = omega arith in get_or-take n (drop (wait_cell p + b) (encode s)) k 0 c ∙ get_or-drop (wait_cell p + b) (encode s) k 0
      ∙ ap (λ (j : ℕ). get_or (encode s) j 0) (add_assoc (wait_cell p) b k) ∙ h k c)

  pub list_of_lem : length s.waits ≡ wait_places → list_of (encode s) p ≡ w.list
  unfolding list_of
  list_of_lem q = let f : length w.list ≤ max_listed = g.fits in rw count_at_lem (part_is header_size (length w.list) w.list q (omega arith) refl (λ k l. list_is s p w g k l))

  names_cell : (k : ℕ) → k < length w.list + 1 → in_wait (encode s) p (6 + k) ≡ get_or (named_by w) k 0
  names_cell zero l = alert_is s p w g
  names_cell (suc k) l = let e : 6 + suc k ≡ header_size + k = omega arith in rw e (list_is s p w g k (omega arith))

  pub names_of_lem : length s.waits ≡ wait_places → names_of (encode s) p ≡ named_by w
  unfolding names_of
  names_of_lem q = let f : length w.list ≤ max_listed = g.fits in rw count_at_lem (part_is 6 (length w.list + 1) (named_by w) q (omega arith) (omega arith) names_cell)

  pub names_at_lem : length s.waits ≡ wait_places → (h : ℕ) → names_at (encode s) h p ≡ concerned_by (h ∷ []) w
  unfolding names_at concerned_by
  names_at_lem q h = rw (names_of_lem q) (has_is (named_by w) h ∙ sym (or-false (member h (named_by w))))

  -- LEAVING the queue
  pub clear_wait_lem : distinct_tickets s.waits ≡ true → clear_wait (encode s) p ≡ encode (with_waits s (dequeue w.ticket s.waits))
  unfolding clear_wait wait_cells
  clear_wait_lem a = fold_clears (encode s) (wait_cell p) wait_size ∙ sym (write_wait s p free g.full g.inside) ∙ ap (λ (ws : List WaitPlace). encode (with_waits s ws)) (sym (dequeue_at s.waits p w a g.here))

pub free_ticket : (s : State) (p : ℕ) → Valid s → p < wait_places → get_or s.waits p free ≡ free → ticket_at (encode s) p ≡ 0
unfolding ticket_at
free_ticket s p g l e = free_cell s p 0 (valid_shaped s g) l e (omega arith)

pub above_zero : (s : State) (p : ℕ) (w : Wait) → Valid s → get_or s.waits p free ≡ waiting w → 0 < w.ticket
above_zero s p w g e = (g.tickets w (at_in s.waits p w e)).0

-- A TEST OF PLACES that is a test of the waits there
pub record Tells (s : State) (f : Wait → Bool) (ok : ℕ → Bool) : Type 0 where
  pub at_free : (p : ℕ) → p < wait_places → get_or s.waits p free ≡ free → ok p ≡ false
  pub at_wait : (p : ℕ) (w : Wait) → p < wait_places → get_or s.waits p free ≡ waiting w → ok p ≡ f w

pub tells_above : (s : State) → Valid s → (last : ℕ) → Tells s (λ v. ltb last v.ticket) (λ i. ltb last (ticket_at (encode s) i))
tells_above s g last = record {
  at_free = λ p l e. let z = free_ticket s p g l e in rw z (le-ltb last 0 (omega arith));
  at_wait = λ p w l e. ap (ltb last) (ticket_at_lem s p w (holds s p w g l e));
}

pub tells_names : (s : State) → Valid s → (h : ℕ) → Tells s (concerned_by (h ∷ [])) (busy_at (encode s) h)
unfolding busy_at
tells_names s g h = record {
  at_free = λ p l e. let z = free_ticket s p g l e in rw z;
  at_wait = λ p w l e. let st = holds s p w g l e in let k : ltb 0 w.ticket ≡ true = lt-ltb 0 w.ticket (above_zero s p w g e) in rw (ticket_at_lem s p w st, k) (names_at_lem s p w st g.slots h);
}

pub tells_due : (s : State) → Valid s → (clock time : ℕ) → Tells s (due clock time) (due_at (encode s) clock time)
unfolding due_at
tells_due s g clock time = record {
  at_free = λ p l e. let z = free_ticket s p g l e in rw z;
  at_wait = λ p w l e. let st = holds s p w g l e in let k : ltb 0 w.ticket ≡ true = lt-ltb 0 w.ticket (above_zero s p w g e) in rw (ticket_at_lem s p w st, k, clock_at_lem s p w st, timeout_at_lem s p w st);
}

-- some place passes exactly if some wait does
pub some_waiting : (s : State) (f : Wait → Bool) (ok : ℕ → Bool) → Valid s → Tells s f ok → some_below ok wait_places ≡ any_waiting f s.waits
some_waiting s f ok g r = same_tests _ _
    (λ t. let q = some_at ok wait_places t in let p : ℕ = q.0 in let l : p < wait_places = q.1 in by_place (get_or s.waits p free)
    (λ e. clash q.2 (r.at_free p l e))
    (λ w e. by_bool (any_waiting f s.waits) (λ y. y) (λ n. clash (sym (r.at_wait p w l e) ∙ q.2) (waiting_none f s.waits n w (at_in s.waits p w e)))))
    (λ t. by_option (oldest f s.waits) (λ e. clash t (ap is_some e))
    (λ w e. let o : Oldest f s.waits w = oldest_some f s.waits w e in let q = in_at s.waits w o.stands in let n = g.slots in let l : q.0 < length s.waits = q.1 in
    some_intro ok wait_places q.0 (omega arith) (r.at_wait q.0 w (omega arith) q.2 ∙ o.passes)))

-- THE OLDEST. The best of the first n places
below_or : {P : Type 0} (j n : ℕ) → j < suc n → (j < n → P) → (j ≡ n → P) → P
below_or j n h a b = by_bool (ltb j n) (λ t. a (ltb-true j n t)) (λ g. b (let l : n ≤ j = ltb-false j n g in omega arith))

record Best (ok : ℕ → Bool) (T : ℕ → ℕ) (n b : ℕ) : Type 0 where
  inside : b < n
  passes : ok b ≡ true
  least : (j : ℕ) → j < n → ok j ≡ true → T b ≤ T j

abbrev NoneOf : (ℕ → Bool) → ℕ → ℕ → Type 0
NoneOf ok n b = (b ≡ wait_places) × ((j : ℕ) → j < n → ok j ≡ false)

best_step : (t : List ℕ) (ok : ℕ → Bool) (n b : ℕ) → n < wait_places → NoneOf ok n b ⊎ Best ok (ticket_at t) n b → NoneOf ok (suc n) (better t ok b n) ⊎ Best ok (ticket_at t) (suc n) (better t ok b n)
unfolding better
best_step t ok n b l (inl r) = let e = r.0 in by_bool (ok n)
    (λ a. let z : ltb b wait_places ≡ false = le-ltb b wait_places (omega arith) in rw (a, z) (inr (record { inside = omega arith; passes = a; least = λ j h k. below_or j n h (λ i. clash k (r.1 j i)) (λ q. rw q (le_refl _)) })))
    (λ f. rw f (inl (e, λ j h. below_or j n h (λ i. r.1 j i) (λ q. rw q f))))
best_step t ok n b l (inr r) = let i = r.inside in let z : ltb b wait_places ≡ true = lt-ltb b wait_places (omega arith) in by_bool (ok n)
    (λ a. by_bool (ltb (ticket_at t n) (ticket_at t b))
    (λ y. let m : ticket_at t n < ticket_at t b = ltb-true _ _ y in rw (a, z, y) (inr (record { inside = omega arith; passes = a; least = λ j h k. below_or j n h (λ i. let q : ticket_at t b ≤ ticket_at t j = r.least j i k in omega arith) (λ q. rw q (le_refl _)) })))
    (λ u. let m : ticket_at t b ≤ ticket_at t n = ltb-false _ _ u in rw (a, z, u) (inr (record { inside = omega arith; passes = r.passes; least = λ j h k. below_or j n h (λ i. r.least j i k) (λ q. rw q m) }))))
    (λ f. rw f (inr (record { inside = omega arith; passes = r.passes; least = λ j h k. below_or j n h (λ i. r.least j i k) (λ q. clash (let y : ok n ≡ true = rw q at k in y) f) })))

best_of : (t : List ℕ) (ok : ℕ → Bool) (n : ℕ) → n ≤ wait_places → NoneOf ok n (fold_below (better t ok) wait_places n) ⊎ Best ok (ticket_at t) n (fold_below (better t ok) wait_places n)
unfolding fold_below
best_of t ok zero l = inl (refl, λ j h. absurd (let z : ⊥ = omega arith in z))
best_of t ok (suc n) l = best_step t ok n (fold_below (better t ok) wait_places n) (omega arith) (best_of t ok n (omega arith))

pub record Found (s : State) (f : Wait → Bool) (p : ℕ) : Type 0 where
  pub wait : Wait
  pub low : p < wait_places
  pub here : get_or s.waits p free ≡ waiting wait
  pub picked : oldest f s.waits ≡ some wait

-- the place of the oldest, or none
pub lowest_is : (s : State) (f : Wait → Bool) (ok : ℕ → Bool) → Valid s → Tells s f ok
    → ((ltb (lowest (encode s) ok) wait_places ≡ false) × (oldest f s.waits ≡ none)) ⊎ Found s f (lowest (encode s) ok)
unfolding lowest
lowest_is s f ok g r = from (fold_below (better (encode s) ok) wait_places wait_places) (best_of (encode s) ok wait_places (le_refl _))
  where
    from : (b : ℕ) → NoneOf ok wait_places b ⊎ Best ok (ticket_at (encode s)) wait_places b → ((ltb b wait_places ≡ false) × (oldest f s.waits ≡ none)) ⊎ Found s f b
    from b (inl q) = let e = q.0 in let n = g.slots in inl (
      le-ltb b wait_places (omega arith),
      oldest_is_none f s.waits (λ w m. let k = in_at s.waits w m in let i : k.0 < length s.waits = k.1 in let l : k.0 < wait_places = omega arith in sym (r.at_wait k.0 w l k.2) ∙ q.1 k.0 l),
    )
    from b (inr q) = let l : b < wait_places = q.inside in let n = g.slots in by_place (get_or s.waits b free)
        (λ e. clash q.passes (r.at_free b l e))
        (λ w e. let t : ticket_at (encode s) b ≡ w.ticket = ticket_at_lem s b w (holds s b w g l e) in inr (record {
          wait = w;
          low = l;
          here = e;
          picked = oldest_is f s.waits w (distinct_tickets_lem s.waits g.distinct) (record {
            stands = at_in s.waits b w e;
            passes = sym (r.at_wait b w l e) ∙ q.passes;
            lowest = λ v m k. let j = in_at s.waits v m in let i : j.0 < length s.waits = j.1 in let h : j.0 < wait_places = omega arith in
                let u : ticket_at (encode s) j.0 ≡ v.ticket = ticket_at_lem s j.0 v (holds s j.0 v g h j.2) in
                let z : ticket_at (encode s) b ≤ ticket_at (encode s) j.0 = q.least j.0 h (r.at_wait j.0 v h j.2 ∙ k) in omega arith;
          });
        }))

pub next_is : (s : State) (last : ℕ) → Valid s → ((ltb (next_wait (encode s) last) wait_places ≡ false) × (oldest (λ v. ltb last v.ticket) s.waits ≡ none)) ⊎ Found s (λ v. ltb last v.ticket) (next_wait (encode s) last)
unfolding next_wait
next_is s last g = lowest_is s (λ v. ltb last v.ticket) (λ i. ltb last (ticket_at (encode s) i)) g (tells_above s g last)
