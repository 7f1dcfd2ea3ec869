-- What the walk's definitions come to on each way through the code.
use Prim.Native.Nat.{ℕ, suc, ◌+◌, ◌-◌, ◌<◌, ◌≤◌}
use native.Mathlib.Omega.{arith}
use native.Mathlib.Nat.{le_refl}
use mathlib.Core.Path.{◌≡◌, refl, sym, ap, ◌∙◌}
use mathlib.Core.Bool.{Bool, true, false, not, cond}
use mathlib.Core.List.{List}
use lib.Dec.{ltb}
use borrow.Author.Tests.{lt-ltb}
use Rattle.model.specs.Sizes.{wait_places}
use Rattle.model.proofs.Logic.{by_bool, clash, not_true, not_false}
use Rattle.cells.specs.Fold.{all_below}
use lib.ListN.{length, get_or, take}
use Rattle.model.specs.Layout.{table_length}
use Rattle.refine.proofs.Validity.{list_length}
use Rattle.cells.specs.Attempt.{signaled_at, Tried, look_any, look_all, take_one, take_all, by_alert, try_any, any_at, alert_of, all_at, try_at}
use Rattle.attempt.proofs.Laws.{SignaledIn, all_stop, all_on, all_end, any_took, any_left, all_took, all_left, list_any, list_all, alert_same, any_same}
use Rattle.cells.specs.Waits.{ticket_at, mode_at, owner_at, count_at, alert_at, list_of, next_wait, names_at, clear_wait, put_record}
use Rattle.cells.specs.Walk.{Walked, walked, Concern, report, settled, settle, visit_cells, walk_cells}

-- the attempt of the wait at place p
module _ (t : List ℕ) (p : ℕ) where
  pub taken_at : (copy : List ℕ) {asking n : ℕ} {x : Tried} → asking ≡ owner_at t p → n ≡ count_at t p → take (count_at t p) copy ≡ list_of t p → x ≡ take_all t asking (take n copy) → x ≡ take_all t (owner_at t p) (list_of t p)
  taken_at copy a b c e = e ∙ rw (a, b, c)

  module _ (l : length t ≡ table_length) (h : p < wait_places) where
    pub alerted_at : {asking alert n : ℕ} {x : Tried} → asking ≡ owner_at t p → alert ≡ alert_at t p → n ≡ count_at t p → x ≡ by_alert t asking alert n → x ≡ by_alert t (owner_at t p) (alert_at t p) (length (list_of t p))
    alerted_at a b c e = e ∙ rw (a, b, c, list_length t l p h)

    pub any_alerted : {asking : ℕ} {list : List ℕ} {x : Tried} → asking ≡ owner_at t p → list ≡ list_of t p → length list ≡ look_any t asking list
        → x ≡ by_alert t (owner_at t p) (alert_at t p) (length (list_of t p)) → x ≡ try_any t (owner_at t p) (alert_at t p) (list_of t p)
    any_alerted {asking} {list} a b e y = let q : length (list_of t p) ≡ look_any t (owner_at t p) (list_of t p) = rw (a, b) at e in y ∙ any_left t (owner_at t p) (alert_at t p) (list_of t p) q (le_refl _)

    pub any_taken : {asking i : ℕ} {list : List ℕ} {x : Tried} → asking ≡ owner_at t p → list ≡ list_of t p → i ≡ look_any t asking list → i < length list
        → x ≡ take_one t asking (get_or list i 0) i → x ≡ try_any t (owner_at t p) (alert_at t p) (list_of t p)
    any_taken {asking} {i} {list} a b e l y = y ∙ any_took t asking (alert_at t p) list e l ∙ rw (a, b)

-- a wait that was tried
module _ (r : Tried) (p k ticket : ℕ) (wake : List ℕ) where
  pub settled_left : {u v : List ℕ} → r.served ≡ true → u ≡ clear_wait r.tables p → v ≡ put_record wake k ticket r.answer r.index → walked (k + 1) u v ≡ settled r p k ticket wake
  settled_left e a b = rw (e, a, b)

-- settling, after an attempt that alters nothing where it fails, and by the ticket read before it
module _ (t wake : List ℕ) (p k : ℕ) where
  settle_is : (r : Tried) {x : Tried} {ticket : ℕ} {y : Walked} → (r.served ≡ false → r.tables ≡ t) → ticket ≡ ticket_at t p → x ≡ r → y ≡ settled x p k ticket wake → y ≡ settle r p (walked k t wake)
  unfolding settle report
  settle_is r m a e y = y ∙ rw (e, a) (by_bool r.served (λ b. rw b) (λ n. rw (n, m n)))

  module _ {x : Tried} {ticket : ℕ} {y : Walked} (a : ticket ≡ ticket_at t p) where
    pub settle_any : x ≡ any_at t p → y ≡ settled x p k ticket wake → y ≡ settle (any_at t p) p (walked k t wake)
    settle_any = settle_is (any_at t p) (any_same t (owner_at t p) (alert_at t p) (list_of t p)) a

    pub settle_alert : x ≡ alert_of t p → y ≡ settled x p k ticket wake → y ≡ settle (alert_of t p) p (walked k t wake)
    settle_alert = settle_is (alert_of t p) (alert_same t (owner_at t p) (alert_at t p) (length (list_of t p))) a

    pub settle_all : x ≡ all_at t p → y ≡ settled x p k ticket wake → y ≡ settle (all_at t p) p (walked k t wake)
    settle_all = settle_is (all_at t p) (λ e. clash refl e) a

counted : (b : Bool) (k : ℕ) (t u wake v : List ℕ) → (cond b (walked (k + 1) u v) (walked k t wake)).count ≤ k + 1
counted true k t u wake v = omega arith
counted false k t u wake v = omega arith

-- at most one more is told
pub settle_count : (x : Tried) (p k : ℕ) (t wake : List ℕ) {r : ℕ} {u v : List ℕ} → walked r u v ≡ settle x p (walked k t wake) → r ≤ k + 1
unfolding settle report
settle_count x p k t wake {r} e = let q : r ≡ (settle x p (walked k t wake)).count = ap (λ (y : Walked). y.count) e in let c = counted x.served k t (clear_wait x.tables p) wake (put_record wake k (ticket_at t p) x.answer x.index) in omega arith

-- the attempt of the wait at place p, by its mode and its look
module _ (t : List ℕ) (p : ℕ) {mode : ℕ} (m : mode ≡ mode_at t p) where
  pub tried_any : mode ≡ 0 → any_at t p ≡ try_at t p
  unfolding try_at
  tried_any z = rw (sym m) (list_any t (owner_at t p) (alert_at t p) (list_of t p) z)

  module _ (z : mode ≡ 0 → ⊥) where
    pub tried_alert : look_all t (owner_at t p) (list_of t p) ≡ false → alert_of t p ≡ try_at t p
    unfolding try_at
    tried_alert e = rw (sym m) (all_left t (owner_at t p) (alert_at t p) (list_of t p) refl e ∙ list_all t (owner_at t p) (alert_at t p) (list_of t p) z)

    pub tried_all : look_all t (owner_at t p) (list_of t p) ≡ true → all_at t p ≡ try_at t p
    unfolding try_at
    tried_all e = rw (sym m) (all_took t (owner_at t p) (alert_at t p) (list_of t p) refl e ∙ list_all t (owner_at t p) (alert_at t p) (list_of t p) z)

-- THE WALK, one turn
abbrev pub Names : ℕ → Concern
Names h u p = names_at u h p

module _ (h turn last k : ℕ) (t wake : List ℕ) {y : Walked} (d : y ≡ walk_cells (wait_places - turn) (Names h) last (walked k t wake)) where
  pub walk_end : wait_places ≤ turn → walked k t wake ≡ y
  unfolding walk_cells
  walk_end l = let e : wait_places - turn ≡ 0 = omega arith in sym (rw e at d)

  module _ (l : turn < wait_places) {p : ℕ} (q : p ≡ next_wait t last) where
    walk_turn : y ≡ cond (ltb p wait_places) (walk_cells (wait_places - (turn + 1)) (Names h) (ticket_at t p) (visit_cells (Names h) p (walked k t wake))) (walked k t wake)
    unfolding walk_cells
    walk_turn = let e : wait_places - turn ≡ suc (wait_places - (turn + 1)) = omega arith in d ∙ rw (e, sym q)

    pub walk_none : wait_places ≡ p → walked k t wake ≡ y
    walk_none b = sym (walk_turn ∙ rw (sym b))

    module _ (b : p < wait_places) {ticket : ℕ} (a : ticket ≡ ticket_at t p) {named : Bool} (n : named ≡ names_at t h p) where
      walk_on : y ≡ walk_cells (wait_places - (turn + 1)) (Names h) ticket (visit_cells (Names h) p (walked k t wake))
      walk_on = walk_turn ∙ rw (lt-ltb p wait_places b, a)

      pub walk_passed : not named ≡ true → y ≡ walk_cells (wait_places - (turn + 1)) (Names h) ticket (walked k t wake)
      unfolding visit_cells
      walk_passed f = walk_on ∙ rw (sym n, not_true named f)

      module _ (f : not named ≡ false) {x : Walked} where
        walk_tried : (r : Tried) → r ≡ try_at t p → x ≡ settle r p (walked k t wake) → y ≡ walk_cells (wait_places - (turn + 1)) (Names h) ticket x
        unfolding visit_cells
        walk_tried r e v = walk_on ∙ rw (v, e, sym n, not_false named f)

        module _ {mode : ℕ} (m : mode ≡ mode_at t p) where
          pub walk_any : mode ≡ 0 → x ≡ settle (any_at t p) p (walked k t wake) → y ≡ walk_cells (wait_places - (turn + 1)) (Names h) ticket x
          walk_any z = walk_tried (any_at t p) (tried_any t p m z)

          -- after the inner loop, which left wake list and count as they were
          module _ (z : mode ≡ 0 → ⊥) {v : List ℕ} {j : ℕ} (c₁ : v ≡ wake) (c₂ : j ≡ k) where
            pub walk_alert : look_all t (owner_at t p) (list_of t p) ≡ false → x ≡ settle (alert_of t p) p (walked j t v) → y ≡ walk_cells (wait_places - (turn + 1)) (Names h) ticket x
            walk_alert e w = walk_tried (alert_of t p) (tried_alert t p m z e) (w ∙ rw (c₁, c₂))

            pub walk_all : look_all t (owner_at t p) (list_of t p) ≡ true → x ≡ settle (all_at t p) p (walked j t v) → y ≡ walk_cells (wait_places - (turn + 1)) (Names h) ticket x
            walk_all e w = walk_tried (all_at t p) (tried_all t p m z e) (w ∙ rw (c₁, c₂))

-- the look of the inner loop
module _ (t : List ℕ) (p i : ℕ) {list : List ℕ} {asking : ℕ} {here : Bool} (o : asking ≡ owner_at t p) (g : list ≡ list_of t p) (s : here ≡ signaled_at t asking (get_or list i 0)) where
  seen_here : here ≡ SignaledIn t (owner_at t p) (list_of t p) i
  seen_here = s ∙ rw (g, o)

  pub look_on : not here ≡ false → all_below (SignaledIn t (owner_at t p) (list_of t p)) i ≡ true → all_below (SignaledIn t (owner_at t p) (list_of t p)) (i + 1) ≡ true
  look_on = all_on t (owner_at t p) (list_of t p) i seen_here

  pub look_fails : i < length list → not here ≡ true → look_all t (owner_at t p) (list_of t p) ≡ false
  look_fails l n = sym (all_stop t (owner_at t p) (list_of t p) i (rw g at l) seen_here n)

pub look_ends : (t : List ℕ) (p i : ℕ) → i ≡ length (list_of t p) → all_below (SignaledIn t (owner_at t p) (list_of t p)) i ≡ true → look_all t (owner_at t p) (list_of t p) ≡ true
look_ends t p i e y = sym (all_end t (owner_at t p) (list_of t p) i e y)
