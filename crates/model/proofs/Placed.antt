-- A valid state with its waits in the lowest places by ticket: the same waits, valid and quiet as before, the same text.
use mathlib.Core.Path.{◌≡◌, refl, ap, sym, ◌∙◌, subst}
use mathlib.Core.Bool.{Bool, true, false}
use mathlib.Core.List.{List, [], ◌∷◌, ◌++◌, map, append_assoc}
use mathlib.Core.Option.{Option, none, some}
use mathlib.Core.Logic.{◌⊎◌, inl, inr, ⊎_elim, ◌↔◌}
use Prim.Native.Nat.{ℕ, zero, suc, ◌-◌, ◌≤◌, ◌<◌}
use native.Mathlib.Omega.{arith}
use native.Mathlib.Nat.{le_antisymm}
use lib.ListN.{length, replicate, length-append, length-replicate, length-map}
use lib.Dec.{eqb, ltb}
use borrow.Author.Tests.{ltb-true, ltb-false, lt-ltb, le-ltb, ne_eqb}
use Rattle.model.specs.Sizes.{wait_places}
use Rattle.model.specs.Basics.{All}
use Rattle.model.specs.Waits.{Wait, WaitPlace, free, waiting, State, lower_ticket, oldest, any_waiting, servable}
use Rattle.model.specs.Snapshot.{queue_from, snapshot_body, snapshot_text}
use Rattle.model.specs.Layout.{distinct_tickets}
use Rattle.model.specs.Notions.{◌is_in◌, Quiet}
use Rattle.model.proofs.Logic.{by_bool, by_option, clash, not_true}
use Rattle.model.proofs.Queue.{oldest_none, oldest_some, oldest_is, oldest_is_none, Oldest, Distinct, count, count_length, count_zero, count_lt}
use Rattle.model.proofs.Valid.{Valid, none_waiting, waiting_none, distinct_tickets_lem}
use Rattle.model.specs.Restore.{lowest_places, quiet, queue, placed, SameButPlaces}
use Rattle.model.proofs.ReadBack.{queue_within, queue_most}

abbrev above : ℕ → Wait → Bool
above last w = ltb last w.ticket

-- w is one of the waits; their tickets rise, from above `last`
infix 40 ◌among◌
abbrev pub ◌among◌ : Wait → List Wait → Type 0
◌among◌ w [] = ⊥
◌among◌ w (v ∷ q) = (w ≡ v) ⊎ (w among q)

abbrev pub Rising : ℕ → List Wait → Type 0
Rising last [] = Unit {0}
Rising last (w ∷ q) = (last < w.ticket) × Rising w.ticket q

pub queue_rising : (n last : ℕ) (ws : List WaitPlace) → Rising last (queue_from n last ws)
unfolding queue_from
queue_rising zero last ws = tt
queue_rising (suc n) last ws = by_option (oldest (above last) ws) (λ e. rw e tt)
    (λ w e. rw e (ltb-true last w.ticket (oldest_some (above last) ws w e).passes, queue_rising n w.ticket ws))

rising_above : (last : ℕ) (q : List Wait) → Rising last q → (w : Wait) → w among q → last < w.ticket
rising_above last [] r w m = absurd m
rising_above last (v ∷ q) r w m = ⊎_elim (λ (p : w ≡ v). rw p r.0)
    (λ k. let a = rising_above v.ticket q r.1 w k in let b : last < v.ticket = r.0 in omega arith) m

-- among the queue exactly if in the places
pub among_all : (P : Wait → Type 0) (q : List Wait) → All P q → (w : Wait) → w among q → P w
among_all P [] h w m = absurd m
among_all P (v ∷ q) h w m = ⊎_elim (λ (p : w ≡ v). subst (λ x. P x) (sym p) h.0) (λ k. among_all P q h.1 w k) m

queue_all : (n last : ℕ) (ws : List WaitPlace) → Distinct ws → count (above last) ws ≤ n → (w : Wait) → w is_in ws → above last w ≡ true → w among queue_from n last ws
unfolding queue_from
queue_all zero last ws d c w m t = clash t (count_zero (above last) ws c w m)
queue_all (suc n) last ws d c w m t = by_option (oldest (above last) ws) (λ e. clash t (oldest_none (above last) ws e w m))
    (λ v e. rw e (let o : Oldest (above last) ws v = oldest_some (above last) ws v e in by_bool (ltb v.ticket w.ticket)
    (λ y. let a : last < v.ticket = ltb-true _ _ o.passes in
    let fewer : count (above v.ticket) ws < count (above last) ws = count_lt (above v.ticket) (above last) ws
    (λ u k z. let b : v.ticket < u.ticket = ltb-true _ _ z in lt-ltb last u.ticket (omega arith)) v o.stands (le-ltb v.ticket v.ticket (omega arith)) o.passes in
    inr (queue_all n v.ticket ws d (omega arith) w m y))
    (λ f. let a : w.ticket ≤ v.ticket = ltb-false _ _ f in inl (d w v m o.stands (le_antisymm a (o.lowest w m t))))))

-- the places of a list of waits
pub places_among : (q : List Wait) (k : ℕ) (w : Wait) → w is_in (map waiting q ++ replicate k free) → w among q
places_among [] zero w m = m
places_among [] (suc k) w m = places_among [] k w m
places_among (v ∷ q) k w m = ⊎_elim (λ p. inl p) (λ (j : w is_in (map waiting q ++ replicate k free)). inr (places_among q k w j)) m

among_places : (q : List Wait) (k : ℕ) (w : Wait) → w among q → w is_in (map waiting q ++ replicate k free)
among_places [] k w m = absurd m
among_places (v ∷ q) k w m = ⊎_elim (λ p. inl p) (λ (j : w among q). inr (among_places q k w j)) m

distinct_places : (last : ℕ) (q : List Wait) (k : ℕ) → Rising last q → distinct_tickets (map waiting q ++ replicate k free) ≡ true
unfolding distinct_tickets
distinct_places last [] zero r = refl
distinct_places last [] (suc k) r = distinct_places last [] k r
distinct_places last (w ∷ q) k r =
    let e : any_waiting (λ v. eqb v.ticket w.ticket) (map waiting q ++ replicate k free) ≡ false = none_waiting (λ v. eqb v.ticket w.ticket) (map waiting q ++ replicate k free)
    (λ v m. let a : w.ticket < v.ticket = rising_above w.ticket q r.1 v (places_among q k v m) in ne_eqb v.ticket w.ticket (λ p. let z : ⊥ = omega arith in z)) in
    rw e (distinct_places w.ticket q k r.1)

-- and their queue is that list
in_append : (a b : List WaitPlace) (w : Wait) → w is_in (a ++ b) → (w is_in a) ⊎ (w is_in b)
in_append [] b w m = inr m
in_append (free ∷ a) b w m = in_append a b w m
in_append (waiting v ∷ a) b w m = ⊎_elim (λ p. inl (inl p)) (λ (k : w is_in (a ++ b)). ⊎_elim (λ j. inl (inr j)) (λ j. inr j) (in_append a b w k)) m

oldest_skip : (f : Wait → Bool) (a b : List WaitPlace) → ((w : Wait) → w is_in a → f w ≡ false) → oldest f (a ++ b) ≡ oldest f b
unfolding oldest
oldest_skip f [] b h = refl
oldest_skip f (free ∷ a) b h = oldest_skip f a b h
oldest_skip f (waiting v ∷ a) b h = rw (h v (inl refl)) (oldest_skip f a b (λ w m. h w (inr m)))

lower_first : (w : Wait) (o : Option Wait) → ((v : Wait) → o ≡ some v → w.ticket ≤ v.ticket) → lower_ticket w o ≡ some w
lower_first w none h = refl
lower_first w (some v) h = rw (le-ltb v.ticket w.ticket (h v refl))

oldest_first : (f : Wait → Bool) (w : Wait) (b : List WaitPlace) → f w ≡ true → ((v : Wait) → v is_in b → w.ticket ≤ v.ticket) → oldest f (waiting w ∷ b) ≡ some w
unfolding oldest
oldest_first f w b t h = rw t (lower_first w (oldest f b) (λ v e. h v (oldest_some f b v e).stands))

pub queue_again : (n last : ℕ) (front : List WaitPlace) (q : List Wait) (k : ℕ) → ((v : Wait) → v is_in front → v.ticket ≤ last) → Rising last q → length q ≤ n
    → queue_from n last (front ++ (map waiting q ++ replicate k free)) ≡ q
unfolding queue_from
queue_again zero last front [] k h r l = refl
queue_again (suc n) last front [] k h r l = rw (oldest_is_none (above last) (front ++ replicate k free)
    (λ w m. ⊎_elim (λ j. le-ltb last w.ticket (h w j)) (λ j. absurd (places_among [] k w j)) (in_append front (replicate k free) w m)))
queue_again zero last front (w ∷ q) k h r l = absurd (let z : ⊥ = omega arith in z)
queue_again (suc n) last front (w ∷ q) k h r l =
    let rest : List WaitPlace = map waiting q ++ replicate k free in
    let a : last < w.ticket = r.0 in
    let o : oldest (above last) (front ++ (waiting w ∷ rest)) ≡ some w = oldest_skip (above last) front (waiting w ∷ rest) (λ v m. le-ltb last v.ticket (h v m))
    ∙ oldest_first (above last) w rest (lt-ltb last w.ticket a) (λ v m. let b : w.ticket < v.ticket = rising_above w.ticket q r.1 v (places_among q k v m) in omega arith) in
    let ih : queue_from n w.ticket (front ++ (waiting w ∷ rest)) ≡ q = rw (append_assoc front (waiting w ∷ []) rest) at (queue_again n w.ticket (front ++ (waiting w ∷ [])) q k
    (λ v m. ⊎_elim (λ j. let b : v.ticket ≤ last = h v j in let z : v.ticket ≤ w.ticket = omega arith in z) (λ (j : (v ≡ w) ⊎ ⊥). ⊎_elim (λ (p : v ≡ w). rw p (omega arith)) (λ x. absurd x) j) (in_append front (waiting w ∷ []) v m)) r.1 (omega arith)) in
    rw (o, ih)

-- THE STATE SO PLACED
module _ (s : State) (g : Valid s) where
  short : length (queue s) ≤ wait_places
  short = let p = g.slots in let l = queue_most (length s.waits) 0 s.waits in omega arith

  slots : length (lowest_places (queue s)) ≡ wait_places
  slots = let n = wait_places - length (queue s) in let a = length-append (map waiting (queue s)) (replicate n free) in let b = length-map (queue s) waiting in let c = length-replicate n free in
      let h = short in omega arith

  pub placed_in : (w : Wait) → w is_in (placed s).waits ↔ w is_in s.waits
  placed_in w = (
    λ m. among_all (λ v. v is_in s.waits) (queue s) (queue_within (length s.waits) 0 s.waits) w (places_among (queue s) (wait_places - length (queue s)) w m),
    λ m. among_places (queue s) (wait_places - length (queue s)) w (queue_all (length s.waits) 0 s.waits (distinct_tickets_lem s.waits g.distinct) (count_length (above 0) s.waits) w m (lt-ltb 0 w.ticket (g.tickets w m).0)),
  )

  pub placed_valid : Valid (placed s)
  placed_valid = record {
    places = g.places;
    slots = slots;
    objects = g.objects;
    waits = λ w m. g.waits w ((placed_in w).0 m);
    tickets = λ w m. g.tickets w ((placed_in w).0 m);
    distinct = distinct_places 0 (queue s) (wait_places - length (queue s)) (queue_rising (length s.waits) 0 s.waits);
    started = g.started;
    bounded = g.bounded;
  }

  pub placed_quiet : Quiet s → Quiet (placed s)
  placed_quiet q w m = q w ((placed_in w).0 m)

  pub placed_queue : queue (placed s) ≡ queue s
  placed_queue = let e = slots in let h = short in queue_again (length (lowest_places (queue s))) 0 [] (queue s) (wait_places - length (queue s)) (λ v m. absurd m) (queue_rising (length s.waits) 0 s.waits) (omega arith)

  pub placed_text : snapshot_text (placed s) ≡ snapshot_text s
  unfolding snapshot_text snapshot_body
  placed_text = rw placed_queue

  pub placed_same : SameButPlaces s (placed s)
  placed_same = record { objects = refl; next = refl; waits = λ w. ((placed_in w).1, (placed_in w).0) }

-- the same waits, whatever their places, are queued alike
pub oldest_same : (f : Wait → Bool) (a b : List WaitPlace) → Distinct b → ((w : Wait) → w is_in a ↔ w is_in b) → oldest f a ≡ oldest f b
oldest_same f a b d h = by_option (oldest f a)
    (λ e. e ∙ sym (oldest_is_none f b (λ w m. oldest_none f a e w ((h w).1 m))))
    (λ w e. let o : Oldest f a w = oldest_some f a w e in
    e ∙ sym (oldest_is f b w d (record { stands = (h w).0 o.stands; passes = o.passes; lowest = λ v m t. o.lowest v ((h v).1 m) t })))

pub queue_same : (n last : ℕ) (a b : List WaitPlace) → Distinct b → ((w : Wait) → w is_in a ↔ w is_in b) → queue_from n last a ≡ queue_from n last b
unfolding queue_from
queue_same zero last a b d h = refl
queue_same (suc n) last a b d h = by_option (oldest (above last) b)
    (λ e. rw (oldest_same (above last) a b d h, e))
    (λ w e. rw (oldest_same (above last) a b d h, e) (ap (λ (q : List Wait). w ∷ q) (queue_same n w.ticket a b d h)))

pub same_text : (a b : State) → Valid a → Valid b → SameButPlaces a b → snapshot_text a ≡ snapshot_text b
unfolding snapshot_text snapshot_body
same_text a b g k e = let l : length a.waits ≡ length b.waits = g.slots ∙ sym k.slots in
    let q : queue a ≡ queue b = rw l (queue_same (length b.waits) 0 a.waits b.waits (distinct_tickets_lem b.waits k.distinct) e.waits) in
    rw (q, e.objects, e.next)

-- the test of quiet
pub test_quiet : (s : State) → quiet s ≡ true → Quiet s
test_quiet s e = waiting_none (servable s.objects) s.waits (not_true _ e)

pub quiet_test : (s : State) → Quiet s → quiet s ≡ true
quiet_test s q = rw (none_waiting (servable s.objects) s.waits q)
