-- One wait place, then one more.
use mathlib.Core.Path.{◌≡◌, sym}
use mathlib.Core.Bool.{Bool, true, false}
use mathlib.Core.List.{List}
use Prim.Native.Nat.{ℕ}
use native.Mathlib.Omega.{arith}
use lib.ListN.{length}
use borrow.Author.Tests.{eq-eqb, ne_eqb, lt-ltb, le-ltb}
use native.Mathlib.Nat.{le_refl}
use Rattle.std.specs.Prelude.{Option, Some, None, is_some}
use Rattle.tables.specs.Found.{Found}
use Rattle.cells.specs.Waits.{ticket_at, mode_at, owner_at, alert_at, list_of}
use Rattle.cells.specs.Attempt.{signaled_at, look_any, look_all, list_serves, servable_at, ready_at}

-- by the list
module _ (t : List ℕ) (mode asking : ℕ) (list : List ℕ) where
  pub any_serves : mode ≡ 0 → (found : Option ℕ) → Found found (look_any t asking list) (length list) → is_some found ≡ list_serves t mode asking list
  unfolding list_serves
  any_serves e (Some i) q = rw (eq-eqb mode 0 e, sym q.0, lt-ltb i (length list) q.1)
  any_serves e None q = rw (eq-eqb mode 0 e, sym q, le-ltb (length list) (length list) (le_refl _))

  pub all_serves : (mode ≡ 0 → ⊥) → look_all t asking list ≡ list_serves t mode asking list
  unfolding list_serves
  all_serves n = rw (ne_eqb mode 0 n)

-- then by the alert
module _ (t : List ℕ) (p : ℕ) {here : Bool} (h : here ≡ list_serves t (mode_at t p) (owner_at t p) (list_of t p)) where
  pub served_by_list : here ≡ true → true ≡ servable_at t p
  unfolding servable_at
  served_by_list y = rw (sym h, y)

  pub served_by_alert : here ≡ false → signaled_at t (owner_at t p) (alert_at t p) ≡ servable_at t p
  unfolding servable_at
  served_by_alert n = rw (sym h, n)

-- only where a wait is queued
module _ (t : List ℕ) (p : ℕ) {ticket : ℕ} (q : ticket ≡ ticket_at t p) where
  pub ready_free : ticket ≡ 0 → false ≡ ready_at t p
  unfolding ready_at
  ready_free e = rw (sym q, e)

  pub ready_queued : (ticket ≡ 0 → ⊥) → servable_at t p ≡ ready_at t p
  unfolding ready_at
  ready_queued n = rw (sym q, lt-ltb 0 ticket (omega (arith, n)))
