-- What a wait's definitions come to on each way through the code.
use Prim.Native.Nat.{ℕ, ◌+◌, ◌<◌, ◌≤◌}
use mathlib.Core.Path.{◌≡◌, refl, sym, ap, ◌∙◌}
use mathlib.Core.Bool.{Bool, true, false, not, cond, ◌&&◌, ◌||◌, or_assoc, or-true, or-false}
use Rattle.std.specs.Prelude.{Some, None}
use mathlib.Core.List.{List, [], ◌∷◌}
use native.Mathlib.Omega.{arith}
use native.Mathlib.Nat.{le_trans}
use lib.ListN.{length}
use lib.Dec.{eqb, ltb, leb}
use borrow.Author.Tests.{lt-ltb, le-leb, lt-leb, ltb-false}
use Rattle.model.specs.Sizes.{wait_places, max_listed, word64, never}
use Rattle.model.specs.Basics.{any_of}
use Rattle.model.specs.Calls.{Lent, time_up}
use Rattle.model.proofs.Logic.{by_bool, clash, not_twice, fault_free}
use Rattle.cells.specs.Waits.{next_ticket, has}
use Rattle.cells.specs.Validity.{too_few, occupied_list, repeated_list, proper_handles, proper_list, proper_alert}
use Rattle.cells.specs.Attempt.{Tried, try_list}
use Rattle.attempt.specs.declared.Served.{Served}
use Rattle.attempt.specs.Values.{tried_by}
use Rattle.attempt.proofs.Laws.{missed_same, index_le}
use Rattle.tables.specs.declared.Terms.{Terms}
use Rattle.tables.specs.Found.{Found}
use Rattle.cells.specs.Calls.{Result, answered, refused_with, bad_wait, ticket_place, queue_cells, later_cells, act_cells, wait_on_cells}

-- tests joined one after another
abbrev pub either_left : Bool → List Bool → Bool
either_left a [] = a
either_left a (b ∷ bs) = either_left (a || b) bs

pub any_left : (a : Bool) (bs : List Bool) → either_left a bs ≡ any_of (a ∷ bs)
unfolding any_of
any_left a [] = sym (or-false a)
any_left a (b ∷ bs) = any_left (a || b) bs ∙ or_assoc a b (any_of bs)

-- the faults of a wait, from what was read
unproper : (mode repeated : Bool) → not (mode || not repeated) ≡ (not mode && repeated)
unproper true r = refl
unproper false r = sym (not_twice r)

to_last : (y a b c : Bool) → (y || (a || (b || (c || false)))) ≡ (a || (b || (c || (y || false))))
to_last true a b c = sym (rw (or-true c, or-true b, or-true a))
to_last false a b c = refl

sixth : (a b c d e f z : Bool) → (a || (b || (c || (d || (e || (f || (true || z))))))) ≡ true
sixth a b c d e f z = rw (or-true f, or-true e, or-true d, or-true c, or-true b, or-true a)

pub bad_is : (t : List ℕ) (mode : ℕ) (list : List ℕ) (asking flags pad alert : ℕ) {proper fit : Bool} → fit ≡ proper_alert t alert → (proper_alert t alert ≡ true → proper ≡ proper_list t mode list alert)
    → either_left (ltb max_listed (length list)) (not proper ∷ eqb asking 0 ∷ ltb 1 flags ∷ not (eqb pad 0) ∷ not fit ∷ []) ≡ bad_wait mode list asking flags pad alert t
unfolding bad_wait proper_list proper_handles any_of
bad_is t mode list asking flags pad alert {proper} e q =
    let D : Bool = has list alert || repeated_list list in let a : Bool = eqb asking 0 in let b : Bool = ltb 1 flags in let c : Bool = not (eqb pad 0) in let l : Bool = ltb max_listed (length list) in
    rw e (any_left l (not proper ∷ a ∷ b ∷ c ∷ not (proper_alert t alert) ∷ []) ∙ by_bool (proper_alert t alert)
    (λ y. rw (q y, y) (by_bool (too_few mode (length list)) (λ f. rw (f, or-true l))
    (λ f. rw f (by_bool (occupied_list t list)
    (λ o. rw (o, unproper (eqb mode 0) D, to_last (not (eqb mode 0) && D) a b c))
    (λ o. rw o)))))
    (λ n. rw (n, sixth false l (not proper) a b c false, sixth (too_few mode (length list)) l (not (occupied_list t list)) a b c ((not (eqb mode 0) && D) || false))))

-- after a failed attempt
module _ (t : List ℕ) (w : Terms) (list : List ℕ) (time : ℕ) (l : Lent) where
  abbrev pub Later : Result → Type 0
  Later r = r ≡ later_cells w.mode list w.owner w.clock w.alert w.timeout time t l

  module _ {up : Bool} (u : up ≡ time_up w.timeout time) where
    pub later_up : up ≡ true → Later (answered 5 0 0 t l)
    unfolding later_cells
    later_up y = rw (sym u, y)

    module _ (n : up ≡ false) where
      pub later_full : Found None (ticket_place t 0) wait_places → Later (refused_with 7 t l)
      unfolding later_cells
      later_full q = rw (sym u, n, sym q)

      module _ {p : ℕ} (q : Found (Some p) (ticket_place t 0) wait_places) {ticket : ℕ} (e : ticket ≡ next_ticket t) where
        pub later_spent : ticket ≡ never → Later (refused_with 8 t l)
        unfolding later_cells
        later_spent z = rw (sym u, n, sym q.0, lt-ltb p wait_places q.1, sym e, le-leb word64 (ticket + 1) (omega (arith, z)))

        pub later_queued : {v : List ℕ} → ticket + 1 < word64 → v ≡ queue_cells t p w.mode list w.owner w.clock w.alert w.timeout → Later (answered 11 0 ticket v l)
        unfolding later_cells
        later_queued b x = rw (sym u, n, sym q.0, lt-ltb p wait_places q.1, x, sym e, lt-leb word64 (ticket + 1) b)

  abbrev pub Act : Result → Type 0
  Act r = r ≡ act_cells w.mode list w.owner w.clock w.alert w.timeout time t l

  module _ (s : Served) {u : List ℕ} (e : tried_by (Some s) u ≡ try_list t w.mode w.owner w.alert list) where
    pub act_served : Act (answered (cond s.abandoned 4 0) s.index 0 u l)
    act_served = rw (sym e)

  pub act_later : {u : List ℕ} → tried_by None u ≡ try_list t w.mode w.owner w.alert list → {q : Result} → q ≡ later_cells w.mode list w.owner w.clock w.alert w.timeout time u l → Act q
  act_later {u} e h = let s : u ≡ t = ap (λ (x : Tried). x.tables) e ∙ missed_same t w.mode w.owner w.alert list (ap (λ (x : Tried). x.served) (sym e)) in
      h ∙ ap (λ (v : List ℕ). later_cells w.mode list w.owner w.clock w.alert w.timeout time v l) s ∙ rw (sym e)

  module _ (pad : ℕ) where
    abbrev pub Wait : Result → Type 0
    Wait r = r ≡ wait_on_cells w.mode list w.owner w.clock pad w.alert w.timeout time t l

    pub wait_long : max_listed < length list → Wait (refused_with 1 t l)
    unfolding wait_on_cells bad_wait
    wait_long h = by_bool (bad_wait w.mode list w.owner w.clock pad w.alert t) (λ y. rw y) (λ n. clash (lt-ltb max_listed (length list) h) (fault_free _ n 1))

    -- through a copy of the list
    module _ {copy : List ℕ} {bad : Bool} (k : copy ≡ list) (e : bad ≡ bad_wait w.mode copy w.owner w.clock pad w.alert t) where
      pub wait_bad : bad ≡ true → Wait (refused_with 1 t l)
      unfolding wait_on_cells
      wait_bad y = rw (sym (rw k at e), y)

      pub wait_acts : bad ≡ false → {q : Result} → q ≡ act_cells w.mode copy w.owner w.clock w.alert w.timeout time t l → Wait q
      unfolding wait_on_cells
      wait_acts y h = rw k at h ∙ rw (sym (rw k at e), y)

-- the index of a wait's answer stays within a list; no proof needs it, it is there to be read
later_index : (t : List ℕ) (mode : ℕ) (list : List ℕ) (asking flags alert timeout time : ℕ) (l : Lent) → (later_cells mode list asking flags alert timeout time t l).first ≡ 0
unfolding later_cells
later_index t mode list asking flags alert timeout time l = by_bool (time_up timeout time) (λ y. rw y) (λ n. rw n (by_bool (ltb (ticket_place t 0) wait_places) (λ y. rw y (by_bool (leb word64 (next_ticket t + 1)) (λ y. rw y) (λ m. rw m))) (λ m. rw m)))

short_list : (t : List ℕ) (mode : ℕ) (list : List ℕ) (asking flags pad alert : ℕ) → bad_wait mode list asking flags pad alert t ≡ false → length list ≤ max_listed
unfolding bad_wait
short_list t mode list asking flags pad alert n = ltb-false max_listed (length list) (fault_free _ n 1)

pub wait_index : (t : List ℕ) (mode : ℕ) (list : List ℕ) (asking flags pad alert timeout time : ℕ) (l : Lent) → (wait_on_cells mode list asking flags pad alert timeout time t l).first ≤ max_listed
unfolding wait_on_cells
wait_index t mode list asking flags pad alert timeout time l = by_bool (bad_wait mode list asking flags pad alert t) (λ y. rw y (omega arith))
    (λ n. rw n (by_bool (try_list t mode asking alert list).served (λ y. rw y (le_trans (index_le t mode asking alert list) (short_list t mode list asking flags pad alert n))) (λ m. rw (m, later_index t mode list asking flags alert timeout time l) (omega arith))))
