-- What the queue's definitions come to on each way through the code.
use Prim.Native.Nat.{ℕ, suc, ◌+◌, ◌-◌, ◌<◌, ◌≤◌}
use native.Mathlib.Omega.{arith}
use mathlib.Core.Path.{◌≡◌, refl, sym, ap, ◌∙◌}
use mathlib.Core.Bool.{Bool, true, false, ◌&&◌, cond}
use mathlib.Core.List.{List}
use lib.Dec.{eqb, ltb}
use borrow.Author.Tests.{lt-ltb, le-ltb}
use Rattle.model.specs.Sizes.{wait_places}
use Rattle.model.specs.Calls.{time_up}
use Rattle.model.proofs.Logic.{clash}
use Rattle.std.specs.Prelude.{Option, Some, None}
use Rattle.tables.specs.Found.{Found}
use Rattle.ending.specs.Lowest.{lower_than}
use Rattle.cells.specs.Fold.{fold_below}
use Rattle.cells.specs.Waits.{ticket_at, clock_at, timeout_at, better, lowest, clear_wait, put_record}
use Rattle.cells.specs.Walk.{due_at, walked, report, end_cells}
use Rattle.cells.proofs.Fold.{fold_none, fold_more}

-- one more place, by what the best so far is
pub better_fails : (t : List ℕ) {passes : Bool} (best i : ℕ) → passes ≡ false → best ≡ better t (λ _. passes) best i
unfolding better
better_fails t best i e = rw e

pub better_first : (t : List ℕ) {passes : Bool} (best i : ℕ) → passes ≡ true → wait_places ≤ best → i ≡ better t (λ _. passes) best i
unfolding better
better_first t best i e h = rw (e, le-ltb best wait_places h)

pub better_lower : (t : List ℕ) {passes : Bool} (best : Option ℕ) (i : ℕ) → passes ≡ true → lower_than t i best ≡ true → (k : ℕ) → Found best k wait_places → i ≡ better t (λ _. passes) k i
unfolding better
better_lower t None i e l k f = better_first t k i e (omega (arith, f))
better_lower t (Some b) i e l k f = rw (e, sym f.0, lt-ltb b wait_places f.1, l)

pub better_not : (t : List ℕ) {passes : Bool} (best : Option ℕ) (i : ℕ) → passes ≡ true → lower_than t i best ≡ false → (k : ℕ) → Found best k wait_places → Found best (better t (λ _. passes) k i) wait_places
unfolding better
better_not t None i e l k f = clash (sym l) refl
better_not t (Some b) i e l k f = (rw (e, sym f.0, lt-ltb b wait_places f.1, l), f.1)

better_test : (t : List ℕ) (ok : ℕ → Bool) (best i : ℕ) → better t (λ _. ok i) best i ≡ better t ok best i
unfolding better
better_test t ok best i = refl

-- one more place
module _ (t : List ℕ) (ok : ℕ → Bool) where
  pub lowest_start : wait_places ≡ fold_below (better t ok) wait_places 0
  lowest_start = fold_none (better t ok) wait_places

  pub lowest_more : (i : ℕ) {passes : Bool} → passes ≡ ok i → better t (λ _. passes) (fold_below (better t ok) wait_places i) i ≡ fold_below (better t ok) wait_places (i + 1)
  lowest_more i p = let k = fold_below (better t ok) wait_places i in ap (λ (q : Bool). better t (λ _. q) k i) p ∙ better_test t ok k i ∙ fold_more (better t ok) wait_places i

pub due_is : (t : List ℕ) (clock time p : ℕ) {ticket own timeout : ℕ} {up : Bool} → ticket ≡ ticket_at t p → own ≡ clock_at t p → timeout ≡ timeout_at t p → up ≡ time_up timeout time → (ltb 0 ticket && (eqb own clock && up)) ≡ due_at t clock time p
unfolding due_at
due_is t clock time p a b c d = rw (d, a, b, c)

-- ending the waits that are due: one turn of the loop, k of them told
module _ (clock time : ℕ) (t wake : List ℕ) (k : ℕ) where
  end_turn : (k < wait_places) → end_cells (wait_places - k) clock time (walked k t wake)
      ≡ cond (ltb (lowest t (due_at t clock time)) wait_places) (end_cells (wait_places - (k + 1)) clock time (report (lowest t (due_at t clock time)) 5 0 t (walked k t wake))) (walked k t wake)
  unfolding end_cells
  end_turn l = let e : wait_places - k ≡ suc (wait_places - (k + 1)) = omega arith in rw e

  module _ (l : k < wait_places) where
    pub end_stop : wait_places ≡ lowest t (due_at t clock time) → end_cells (wait_places - k) clock time (walked k t wake) ≡ walked k t wake
    end_stop q = end_turn l ∙ rw (sym q)

    pub end_more : {p ticket : ℕ} {u v : List ℕ} → p ≡ lowest t (due_at t clock time) → p < wait_places → ticket ≡ ticket_at t p → u ≡ clear_wait t p → v ≡ put_record wake k ticket 5 0 → end_cells (wait_places - k) clock time (walked k t wake) ≡ end_cells (wait_places - (k + 1)) clock time (walked (k + 1) u v)
    unfolding report
    end_more {p} q h a b c = end_turn l ∙ rw (sym q, lt-ltb p wait_places h, b, c, a)

  pub end_last : wait_places ≤ k → end_cells (wait_places - k) clock time (walked k t wake) ≡ walked k t wake
  unfolding end_cells
  end_last h = let e : wait_places - k ≡ 0 = omega arith in rw e
