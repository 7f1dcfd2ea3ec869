-- No queued wait could be served, on cells and on the state.
use mathlib.Core.Path.{◌≡◌, refl, ap, sym, ◌∙◌}
use mathlib.Core.Bool.{true, false, not, ◌||◌}
use mathlib.Core.List.{List}
use mathlib.Core.Option.{Option, none, some}
use Prim.Native.Nat.{ℕ}
use lib.ListN.{length}
use lib.Dec.{eqb, ltb}
use borrow.Author.Tests.{lt-ltb}
use Rattle.model.specs.Basics.{maybe}
use Rattle.model.specs.Waits.{Wait, State, Grant, attempt, servable}
use Rattle.model.specs.Layout.{encode}
use Rattle.model.specs.Restore.{quiet}
use Rattle.model.proofs.Logic.{by_bool}
use Rattle.model.proofs.Valid.{Valid}
use Rattle.model.proofs.Cells.{holds}
use Rattle.cells.specs.Attempt.{signaled_at, look_any, look_all, Tried, missed, take_one, by_alert, try_any, try_all, try_list, try_at, list_serves, servable_at, ready_at, some_servable}
use Rattle.refine.proofs.Attempt.{granted, try_at_lem}
use Rattle.refine.proofs.Waits.{ticket_at_lem, free_ticket, above_zero, Tells, some_waiting}

-- AN ATTEMPT SERVES exactly if its look or its alert does
alert_serves : (t : List ℕ) (asking alert n : ℕ) → (by_alert t asking alert n).served ≡ signaled_at t asking alert
unfolding by_alert take_one
alert_serves t asking alert n = by_bool (signaled_at t asking alert) (λ y. rw y) (λ f. rw f)

any_serves : (t : List ℕ) (asking alert : ℕ) (list : List ℕ) → (try_any t asking alert list).served ≡ (ltb (look_any t asking list) (length list) || signaled_at t asking alert)
unfolding try_any take_one
any_serves t asking alert list = by_bool (ltb (look_any t asking list) (length list)) (λ y. rw y) (λ f. rw f (alert_serves t asking alert (length list)))

all_serves : (t : List ℕ) (asking alert : ℕ) (list : List ℕ) → (try_all t asking alert list).served ≡ (look_all t asking list || signaled_at t asking alert)
unfolding try_all
all_serves t asking alert list = by_bool (look_all t asking list) (λ y. rw y) (λ f. rw f (alert_serves t asking alert (length list)))

list_serves_lem : (t : List ℕ) (mode asking alert : ℕ) (list : List ℕ) → (try_list t mode asking alert list).served ≡ (list_serves t mode asking list || signaled_at t asking alert)
unfolding try_list list_serves
list_serves_lem t mode asking alert list = by_bool (eqb mode 0) (λ y. rw y (any_serves t asking alert list)) (λ f. rw f (all_serves t asking alert list))

at_serves : (t : List ℕ) (p : ℕ) → (try_at t p).served ≡ servable_at t p
unfolding try_at servable_at
at_serves t p = list_serves_lem t _ _ _ _

granted_serves : (s : State) (w : Wait) (r : Option Grant) → (maybe r (missed (encode s)) (granted s w)).served ≡ maybe r false (λ g. true)
granted_serves s w none = refl
granted_serves s w (some g) = refl

tells_ready : (s : State) → Valid s → Tells s (servable s.objects) (ready_at (encode s))
unfolding ready_at
tells_ready s g = record {
  at_free = λ p l e. let z = free_ticket s p g l e in rw z;
  at_wait = λ p w l e. let k : ltb 0 w.ticket ≡ true = lt-ltb 0 w.ticket (above_zero s p w g e) in
      let u : servable_at (encode s) p ≡ servable s.objects w = sym (at_serves (encode s) p) ∙ (ap (λ (r : Tried). r.served) (try_at_lem s p w g l e) ∙ granted_serves s w (attempt s.objects w)) in
      rw (ticket_at_lem s p w (holds s p w g l e), k) u;
}

pub quiet_is : (s : State) → Valid s → not (some_servable (encode s)) ≡ quiet s
quiet_is s g = ap not (some_waiting s (servable s.objects) (ready_at (encode s)) g (tells_ready s g))
