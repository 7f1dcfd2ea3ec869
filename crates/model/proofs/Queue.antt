-- The queue: membership, the oldest wait that passes a test, leaving, counting.
use mathlib.Core.Path.{◌≡◌, refl, ap, sym, ◌∙◌, subst}
use mathlib.Core.Bool.{Bool, true, false, not, ◌&&◌, cond}
use mathlib.Core.List.{List, [], ◌∷◌}
use mathlib.Core.Option.{Option, none, some}
use mathlib.Core.Logic.{◌⊎◌, inl, inr, ⊎_elim}
use Prim.Native.Nat.{ℕ, suc, ◌≤◌, ◌<◌}
use native.Mathlib.Omega.{arith}
use native.Mathlib.Nat.{le_refl, le_trans, le_antisymm}
use lib.ListN.{length}
use lib.Dec.{eqb, ltb}
use borrow.Author.Tests.{ltb-true, ltb-false, eqb-true, eqb-false}
use Rattle.model.specs.Basics.{member}
use Rattle.model.specs.Calls.{enqueue}
use Rattle.model.specs.Notions.{◌is_in◌}
use Rattle.model.specs.Waits.{Wait, WaitPlace, free, waiting, dequeue, lower_ticket, oldest, named_by, concerned_by}
use Rattle.model.proofs.Logic.{by_bool, by_option, clash, differ, or_split}

-- of `lower_ticket`
record Lower (w : Wait) (o : Option Wait) : Type 0 where
  it : Wait
  is : lower_ticket w o ≡ some it
  from : (it ≡ w) ⊎ (o ≡ some it)
  below : it.ticket ≤ w.ticket
  under : (u : Wait) → o ≡ some u → it.ticket ≤ u.ticket

lower_some : (w : Wait) (o : Option Wait) → Lower w o
lower_some w none = record { it = w; is = refl; from = inl refl; below = le_refl _; under = λ u e. differ (cc) }
lower_some w (some u) = by_bool (ltb u.ticket w.ticket)
    (λ t. record { it = u; is = rw t; from = inr refl; below = (let h : u.ticket < w.ticket = ltb-true _ _ t in omega arith); under = λ x e. let q : u ≡ x = cc in rw (← q) (le_refl _) })
    (λ f. record { it = w; is = rw f; from = inl refl; below = le_refl _; under = λ x e. let q : u ≡ x = cc in let h : w.ticket ≤ u.ticket = ltb-false _ _ f in rw (← q) h })

-- the oldest by its properties
pub oldest_none : (f : Wait → Bool) (ws : List WaitPlace) → oldest f ws ≡ none → (w : Wait) → w is_in ws → f w ≡ false
unfolding oldest
oldest_none f [] e w m = absurd m
oldest_none f (free ∷ ws) e w m = oldest_none f ws e w m
oldest_none f (waiting v ∷ ws) e w m = by_bool (f v)
    (λ t. let q : lower_ticket v (oldest f ws) ≡ none = rw t at e in differ (cc (lower_some v (oldest f ws)).is))
    (λ n. let q : oldest f ws ≡ none = rw n at e in ⊎_elim (λ (p : w ≡ v). rw p n) (λ m'. oldest_none f ws q w m') m)

pub record Oldest (f : Wait → Bool) (ws : List WaitPlace) (w : Wait) : Type 0 where
  pub stands : w is_in ws
  pub passes : f w ≡ true
  pub lowest : (v : Wait) → v is_in ws → f v ≡ true → w.ticket ≤ v.ticket

oldest_lower : (f : Wait → Bool) (ws : List WaitPlace) (v w : Wait) → ((x : Wait) → oldest f ws ≡ some x → Oldest f ws x)
    → f v ≡ true → lower_ticket v (oldest f ws) ≡ some w → Oldest f (waiting v ∷ ws) w
oldest_lower f ws v w ih t q =
    let l : Lower v (oldest f ws) = lower_some v (oldest f ws) in
    let is : l.it ≡ w = cc l.is in
    let from : (w ≡ v) ⊎ (oldest f ws ≡ some w) = subst (λ (x : Wait). (x ≡ v) ⊎ (oldest f ws ≡ some x)) is l.from in
    let below : w.ticket ≤ v.ticket = subst (λ (x : Wait). x.ticket ≤ v.ticket) is l.below in
    let under : (u : Wait) → oldest f ws ≡ some u → w.ticket ≤ u.ticket = subst (λ (x : Wait). (u : Wait) → oldest f ws ≡ some u → x.ticket ≤ u.ticket) is l.under in
    record {
      stands = ⊎_elim (λ p. inl p) (λ e. inr (ih w e).stands) from;
      passes = ⊎_elim (λ (p : w ≡ v). rw p t) (λ e. (ih w e).passes) from;
      lowest = λ u m fu. ⊎_elim
          (λ (p : u ≡ v). rw p below)
          (λ m'. by_option (oldest f ws)
          (λ e. clash fu (oldest_none f ws e u m'))
          (λ x e. le_trans (under x e) ((ih x e).lowest u m' fu))) m;
    }

pub oldest_some : (f : Wait → Bool) (ws : List WaitPlace) (w : Wait) → oldest f ws ≡ some w → Oldest f ws w
unfolding oldest
oldest_some f [] w e = differ (cc)
oldest_some f (free ∷ ws) w e = let r = oldest_some f ws w e in record { stands = r.stands; passes = r.passes; lowest = r.lowest }
oldest_some f (waiting v ∷ ws) w e = by_bool (f v)
    (λ t. oldest_lower f ws v w (λ x q. oldest_some f ws x q) t (rw t at e))
    (λ n. let r = oldest_some f ws w (rw n at e) in record {
      stands = inr r.stands;
      passes = r.passes;
      lowest = λ u m fu. ⊎_elim (λ (p : u ≡ v). clash fu (rw p n)) (λ m'. r.lowest u m' fu) m;
    })

-- differ two waits of the queue have one ticket
abbrev pub Distinct : List WaitPlace → Type 0
Distinct ws = (v w : Wait) → v is_in ws → w is_in ws → v.ticket ≡ w.ticket → v ≡ w

pub oldest_is : (f : Wait → Bool) (ws : List WaitPlace) (w : Wait) → Distinct ws → Oldest f ws w → oldest f ws ≡ some w
oldest_is f ws w d p = by_option (oldest f ws)
    (λ e. clash p.passes (oldest_none f ws e w p.stands))
    (λ v e. let q : Oldest f ws v = oldest_some f ws v e in
    let t : v.ticket ≡ w.ticket = le_antisymm (q.lowest w p.stands p.passes) (p.lowest v q.stands q.passes) in
    let i : v ≡ w = d v w q.stands p.stands t in cc)

pub oldest_is_none : (f : Wait → Bool) (ws : List WaitPlace) → ((w : Wait) → w is_in ws → f w ≡ false) → oldest f ws ≡ none
oldest_is_none f ws h = by_option (oldest f ws) (λ e. e) (λ w e. let q = oldest_some f ws w e in clash q.passes (h w q.stands))

-- leaving
pub dequeue_in : (t : ℕ) (ws : List WaitPlace) (w : Wait) → w is_in dequeue t ws → (w is_in ws) × (w.ticket ≡ t → ⊥)
unfolding dequeue
dequeue_in t [] w m = absurd m
dequeue_in t (free ∷ ws) w m = dequeue_in t ws w m
dequeue_in t (waiting v ∷ ws) w m = by_bool (eqb v.ticket t)
    (λ e. let m' : w is_in dequeue t ws = subst (λ (b : Bool). w is_in (cond b free (waiting v) ∷ dequeue t ws)) e m in let r = dequeue_in t ws w m' in (inr r.0, r.1))
    (λ n. let m' : (w ≡ v) ⊎ (w is_in dequeue t ws) = subst (λ (b : Bool). w is_in (cond b free (waiting v) ∷ dequeue t ws)) n m in
    ⊎_elim (λ (p : w ≡ v). (inl p, λ q. eqb-false _ _ n (ap (λ (x : Wait). x.ticket) (sym p) ∙ q)))
    (λ (k : w is_in dequeue t ws). let r = dequeue_in t ws w k in (inr r.0, r.1)) m')

-- counting the waits that pass a test
unfoldable pub count : (Wait → Bool) → List WaitPlace → ℕ
count f [] = 0
count f (free ∷ ws) = count f ws
count f (waiting w ∷ ws) = cond (f w) (suc (count f ws)) (count f ws)

pub count_length : (f : Wait → Bool) (ws : List WaitPlace) → count f ws ≤ length ws
unfolding count
count_length f [] = omega arith
count_length f (free ∷ ws) = let ih = count_length f ws in omega arith
count_length f (waiting w ∷ ws) = let ih = count_length f ws in by_bool (f w) (λ t. rw t (omega arith)) (λ n. rw n (omega arith))

pub count_zero : (f : Wait → Bool) (ws : List WaitPlace) → count f ws ≤ 0 → (w : Wait) → w is_in ws → f w ≡ false
unfolding count
count_zero f [] h w m = absurd m
count_zero f (free ∷ ws) h w m = count_zero f ws h w m
count_zero f (waiting v ∷ ws) h w m = by_bool (f v)
    (λ t. let k : suc (count f ws) ≤ 0 = rw t at h in absurd (let z : ⊥ = omega arith in z))
    (λ n. let k : count f ws ≤ 0 = rw n at h in ⊎_elim (λ (p : w ≡ v). rw p n) (λ m'. count_zero f ws k w m') m)

pub count_le : (f g : Wait → Bool) (ws : List WaitPlace) → ((w : Wait) → w is_in ws → f w ≡ true → g w ≡ true) → count f ws ≤ count g ws
unfolding count
count_le f g [] h = omega arith
count_le f g (free ∷ ws) h = count_le f g ws h
count_le f g (waiting v ∷ ws) h = let ih = count_le f g ws (λ w m t. h w (inr m) t) in by_bool (f v)
    (λ t. let gt = h v (inl refl) t in rw (t, gt) (omega arith))
    (λ n. by_bool (g v) (λ t. rw (n, t) (omega arith)) (λ k. rw (n, k) ih))

pub count_lt : (f g : Wait → Bool) (ws : List WaitPlace) → ((w : Wait) → w is_in ws → f w ≡ true → g w ≡ true)
    → (v : Wait) → v is_in ws → f v ≡ false → g v ≡ true → count f ws < count g ws
unfolding count
count_lt f g [] h v m n t = absurd m
count_lt f g (free ∷ ws) h v m n t = count_lt f g ws h v m n t
count_lt f g (waiting u ∷ ws) h v m n t = ⊎_elim
    (λ (p : v ≡ u). let le = count_le f g ws (λ w m' s. h w (inr m') s) in
    let nu : f u ≡ false = rw (← p) n in let tu : g u ≡ true = rw (← p) t in rw (nu, tu) (omega arith))
    (λ m'. let ih = count_lt f g ws (λ w k s. h w (inr k) s) v m' n t in by_bool (f u)
    (λ s. let gs = h u (inl refl) s in rw (s, gs) (omega arith))
    (λ s. by_bool (g u) (λ q. rw (s, q) (omega arith)) (λ q. rw (s, q) ih))) m

-- what is counted after leaving is counted before, without that ticket
pub count_dequeue : (f : Wait → Bool) (t : ℕ) (ws : List WaitPlace) → count f (dequeue t ws) ≡ count (λ w. not (eqb w.ticket t) && f w) ws
unfolding count dequeue
count_dequeue f t [] = refl
count_dequeue f t (free ∷ ws) = count_dequeue f t ws
count_dequeue f t (waiting v ∷ ws) = let ih = count_dequeue f t ws in by_bool (eqb v.ticket t) (λ e. rw e ih)
    (λ n. rw n (by_bool (f v) (λ s. rw s (ap suc ih)) (λ s. rw s ih)))

-- queuing
pub enqueue_in : (w : Wait) (ws : List WaitPlace) (v : Wait) → v is_in enqueue w ws → (v ≡ w) ⊎ (v is_in ws)
unfolding enqueue
enqueue_in w [] v m = absurd m
enqueue_in w (free ∷ ws) v m = m
enqueue_in w (waiting u ∷ ws) v m = ⊎_elim (λ (p : v ≡ u). inr (inl p)) (λ (k : v is_in enqueue w ws). ⊎_elim (λ p. inl p) (λ j. inr (inr j)) (enqueue_in w ws v k)) m

-- a wait that is not concerned names none of the changed objects
pub unconcerned : (cs : List ℕ) (w : Wait) → concerned_by cs w ≡ false → (k : ℕ) → member k (named_by w) ≡ true → member k cs ≡ false
unfolding concerned_by member
unconcerned [] w n k i = refl
unconcerned (c ∷ cs) w n k i = let r = or_split (member c (named_by w)) (concerned_by cs w) n in
    let d : eqb k c ≡ false = by_bool (eqb k c) (λ t. clash (subst (λ (x : ℕ). member x (named_by w) ≡ true) (eqb-true k c t) i) r.0) (λ f. f) in rw (d, unconcerned cs w r.1 k i)

pub concerned_one : (h : ℕ) (w : Wait) → concerned_by (h ∷ []) w ≡ false → member h (named_by w) ≡ false
unfolding concerned_by
concerned_one h w e = (or_split (member h (named_by w)) false e).0
