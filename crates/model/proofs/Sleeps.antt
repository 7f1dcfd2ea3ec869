-- What ends a wait for any of no objects (1/13): its attempt is its alert's, and without alert and end only a cancel is left.
use mathlib.Core.Path.{◌≡◌, sym, ◌∙◌, subst}
use mathlib.Core.Bool.{Bool, false, cond}
use mathlib.Core.List.{List, [], ◌∷◌, ◌++◌}
use mathlib.Core.Option.{none, some}
use mathlib.Core.Logic.{◌⊎◌, ⊎_elim}
use Prim.Native.Nat.{ℕ, zero, suc}
use lib.ListN.{length, get_or}
use lib.Dec.{eqb, leb, ltb}
use Rattle.model.specs.Sizes.{never}
use Rattle.model.specs.Basics.{All}
use Rattle.model.specs.Objects.{Object, signaled}
use Rattle.model.specs.Waits.{any, Wait, WaitPlace, free, waiting, State, with_waits, object_at, lowest_signaled, look}
use Rattle.model.specs.Waits.{attempt, dequeue, oldest, concerned_by, serve, try_to_serve, walk_queue, wake_by_walk}
use Rattle.model.specs.Calls.{Operation, create, close, reset_event, read, signal, wait, expire, cancel, snapshot}
use Rattle.model.specs.Calls.{Call, new_wait, Change, end_each, change}
use Rattle.model.specs.Steps.{library_step}
use Rattle.model.specs.Notions.{◌is_in◌}
use Rattle.model.proofs.Logic.{by_bool, by_option, differ, clash}
use Rattle.model.proofs.Queue.{oldest_some, dequeue_in}
use Rattle.model.proofs.Cells.{at_in}
use Rattle.model.proofs.Valid.{Valid, distinct_tickets_lem}
use Rattle.model.proofs.Waking.{after, walk_nothing}
use Rattle.model.proofs.Rules.{due, perform_case}
use Rattle.model.proofs.Frame.{Unreported, change_queue, step_stays}
use Rattle.model.proofs.Reports.{admits_silent}

pub attempt_none : (os : List Object) (w : Wait) → w.mode ≡ any → w.list ≡ []
    → attempt os w ≡ cond (signaled w.owner (object_at os w.alert)) (some record { handles = w.alert ∷ []; index = 0 }) none
unfolding attempt look lowest_signaled
attempt_none os w m l = rw (m, l)

-- a claim on the queued waits with this ticket; no objects could serve this wait
abbrev OfTicket : (Wait → Type 0) → ℕ → State → Type 0
OfTicket P t s = (v : Wait) → v is_in s.waits → v.ticket ≡ t → P v

abbrev Unservable : Wait → Type 0
Unservable w = (os : List Object) → attempt os w ≡ none

walk_unreported : (n : ℕ) (changed : List ℕ) (last : ℕ) (s : State) (t : ℕ) → OfTicket Unservable t s → Unreported t (walk_queue n changed last s).reports
unfolding walk_queue try_to_serve serve
walk_unreported zero changed last s t k = tt
walk_unreported (suc n) changed last s t k = by_option (oldest (λ w. ltb last w.ticket) s.waits) (λ e. rw e tt)
    (λ w e. let m : w is_in s.waits = (oldest_some (λ w. ltb last w.ticket) s.waits w e).stands in by_bool (concerned_by changed w)
    (λ y. by_option (attempt s.objects w) (λ a. rw (e, y, a) (walk_unreported n changed w.ticket s t k))
    (λ g a. rw (e, y, a) (
      λ i. differ (let q : none ≡ some g = sym (k w m i s.objects) ∙ a in cc),
      walk_unreported n changed w.ticket (after w g s) t (λ v j. k v (dequeue_in _ _ v j).0),
    )))
    (λ f. rw (e, f) (walk_unreported n changed w.ticket s t k)))

end_each_unreported : (n : ℕ) (f : Wait → Bool) (s : State) (t : ℕ) → OfTicket (λ v. f v ≡ false) t s → Unreported t (end_each n f s).reports
unfolding end_each
end_each_unreported zero f s t k = tt
end_each_unreported (suc n) f s t k = by_option (oldest f s.waits) (λ e. rw e tt)
    (λ w e. let o = oldest_some f s.waits w e in
    rw e (λ i. clash o.passes (k w o.stands i), end_each_unreported n f (with_waits s (dequeue w.ticket s.waits)) t (λ v j. k v (dequeue_in _ _ v j).0)))

never_due : (clock time : ℕ) (w : Wait) → w.timeout ≡ never → due clock time w ≡ false
never_due clock time w e = rw e (by_bool (eqb w.clock clock) (λ y. rw y (by_bool (leb never time) (λ l. rw l) (λ l. rw l))) (λ n. rw n))

change_unreported : (op : Operation) (s : State) (t : ℕ) → OfTicket (λ v. v.timeout ≡ never) t s → Unreported t (change op s).reports
unfolding change
change_unreported (create j x y) s t k = tt
change_unreported (close h) s t k = tt
change_unreported (reset_event h) s t k = tt
change_unreported (read j h) s t k = tt
change_unreported (signal how h) s t k = tt
change_unreported (wait mode hs o f p a timeout time) s t k = rw (admits_silent (new_wait mode hs o f a timeout s.next) time s) tt
change_unreported (expire clock time) s t k = end_each_unreported (length s.waits) (due clock time) s t (λ v m i. never_due clock time v (k v m i))
change_unreported (cancel j) s t k = tt
change_unreported snapshot s t k = tt

all_both : {A : Type 0} (P : A → Type 0) (xs ys : List A) → All P xs → All P ys → All P (xs ++ ys)
all_both P [] ys a b = b
all_both P (x ∷ xs) ys a b = (a.0, all_both P xs ys a.1 b)

-- a wait that no objects could serve and that has no end stays until it is cancelled
pub step_unended : (s : State) (c : Call) (p : ℕ) (w : Wait) → Valid s → get_or s.waits p free ≡ waiting w → Unservable w → w.timeout ≡ never
    → (c.operation ≡ cancel w.ticket → ⊥) → get_or (library_step s c).held.waits p free ≡ waiting w
unfolding library_step
step_unended s c p w g e u l n = step_stays s c p w e n (perform_case wake_by_walk s c (λ o. Unreported w.ticket o.reports) (λ k r. tt)
    (λ a. let d : Change = change c.operation s in all_both _ d.reports (wake_by_walk d.changed d.state).reports
    (change_unreported c.operation s w.ticket (λ v m i. subst (λ (x : Wait). x.timeout ≡ never) (sym (same v m i)) l)) (woken d (change_queue c.operation s))))
  where
    same : (v : Wait) → v is_in s.waits → v.ticket ≡ w.ticket → v ≡ w
    same v m i = distinct_tickets_lem s.waits g.distinct v w m (at_in s.waits p w e) i

    woken : (d : Change) → (d.changed ≡ []) ⊎ ((d.state.waits ≡ s.waits) × (d.reports ≡ [])) → Unreported w.ticket (wake_by_walk d.changed d.state).reports
    woken d q = ⊎_elim (λ (z : d.changed ≡ []). rw (z, walk_nothing (length d.state.waits) 0 d.state) tt)
        (λ (z : (d.state.waits ≡ s.waits) × (d.reports ≡ [])). walk_unreported (length d.state.waits) d.changed 0 d.state w.ticket
        (λ v m i. subst Unservable (sym (same v (subst (λ (ws : List WaitPlace). v is_in ws) z.0 m) i)) u)) q
