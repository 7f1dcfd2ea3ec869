-- Demand 3 over states: along every history the library's walk and the reference's search agree, and stay quiet.
use mathlib.Core.Path.{◌≡◌, refl, ap}
use mathlib.Core.Bool.{Bool, true, false, ◌||◌}
use mathlib.Core.List.{List, [], ◌∷◌}
use mathlib.Core.Logic.{⊎_elim}
use Prim.Native.Nat.{ℕ, zero, suc}
use native.Mathlib.Omega.{arith}
use lib.ListN.{length, replicate, length-replicate}
use lib.Dec.{eqb, lit<}
use borrow.Author.Tests.{eqb-true, eqb-false}
use Rattle.model.specs.Basics.{member}
use Rattle.model.specs.Calls.{Operation, create, close, reset_event, read, signal, wait, expire, cancel, snapshot, Call, new_object, new_handle, wait_faults, time_up, new_wait, refusals, Change, admits, end_each, change, WithinWidths}
use Rattle.model.specs.Layout.{valid_object, distinct_tickets}
use Rattle.model.specs.Sizes.{object_places, wait_places}
use Rattle.model.specs.Objects.{Object, empty, occupied, cleared}
use Rattle.model.specs.Steps.{conditions, first_refusal, library_step, reference_step}
use Rattle.model.specs.Notions.{◌is_in◌, Quiet}
use Rattle.model.specs.Waits.{Wait, free, State, initial, with_objects, with_waits, object_at, put_at, put_object, attempt, servable, dequeue, oldest, named_by, wake_by_walk, wake_by_search}
use Rattle.model.proofs.Waking.{Unaffected, search_quiet, walking_is_searching}
use Rattle.model.proofs.Logic.{by_bool, by_option, clash, or_split, fault_free}
use Rattle.model.proofs.Rules.{Accepted, accepted, clear, due, perform_case, reset_less, cleared_less, new_place}
use Rattle.model.proofs.Acquiring.{signaled_mine, at_put_other, Less, put_less, acquire_each_less, attempt_signaled, servable_mono}
use Rattle.model.proofs.Valid.{Valid, change_valid, step_valid, named_there, valid_consistent}
use Rattle.model.proofs.Queue.{dequeue_in, count_length, enqueue_in, unconcerned}

-- what a history keeps
pub record Settled (s : State) : Type 0 where
  pub valid : Valid s
  pub quiet : Quiet s

less_quiet : (s : State) (os : List Object) → Less os s.objects → Quiet s → Quiet (with_objects s os)
less_quiet s os l q w m = servable_mono os s.objects w (λ k i. l w.owner k) (q w m)

-- a wait that does not name the object is servable or not as before
put_other : (s : State) (h : ℕ) (x : Object) (w : Wait) → member h (named_by w) ≡ false → servable s.objects w ≡ false → servable (put_at s.objects h x) w ≡ false
put_other s h x w n q = servable_mono (put_at s.objects h x) s.objects w
    (λ k i e. let d : eqb k h ≡ false = by_bool (eqb k h) (λ t. clash i (rw (eqb-true k h t) n)) (λ f. f) in rw (at_put_other s.objects h x k d) at e) q

-- objects change at these places only, and no wait that names none of them can be served by that
objects_unaffected : (s : State) (os : List Object) (hs : List ℕ) → ((k : ℕ) → member k hs ≡ false → object_at os k ≡ object_at s.objects k) → Quiet s → Unaffected hs (with_objects s os)
objects_unaffected s os hs same q w m n = servable_mono os s.objects w (λ k i e. rw (same k (unconcerned hs w n k i)) at e) (q w m)

put_unaffected : (s : State) (h : ℕ) (x : Object) → Quiet s → Unaffected (h ∷ []) (put_object s h x)
unfolding member
put_unaffected s h x q = objects_unaffected s (put_at s.objects h x) (h ∷ []) (λ k n. at_put_other s.objects h x k (or_split (eqb k h) false n).0) q

create_quiet : (s : State) (x : Object) → Valid s → Quiet s → Quiet (put_object s (new_handle s) x)
create_quiet s x g q w m = let r = new_place s in let v = r.0 in let z = r.1 in
    put_other s (new_handle s) x w (by_bool (member (new_handle s) (named_by w))
    (λ t. clash (let y : (eqb (new_handle s) 0 || occupied (object_at s.objects (new_handle s))) ≡ true = named_there s.objects w (g.waits w m) (new_handle s) t in rw (z, v) at y) refl) (λ f. f)) (q w m)

-- the queue shrinks
within_quiet : (s s' : State) → s'.objects ≡ s.objects → ((w : Wait) → w is_in s'.waits → w is_in s.waits) → Quiet s → Quiet s'
within_quiet s s' same within q w m = rw same (q w (within w m))

pub end_each_objects : (n : ℕ) (f : Wait → Bool) (s : State) → (end_each n f s).state.objects ≡ s.objects
unfolding end_each
end_each_objects zero f s = refl
end_each_objects (suc n) f s = by_option (oldest f s.waits) (λ e. rw e) (λ w e. rw e (end_each_objects n f (with_waits s (dequeue w.ticket s.waits))))

end_each_within : (n : ℕ) (f : Wait → Bool) (s : State) (w : Wait) → w is_in (end_each n f s).state.waits → w is_in s.waits
unfolding end_each
end_each_within zero f s w = λ m. m
end_each_within (suc n) f s w = by_option (oldest f s.waits) (λ e. rw e (λ m. m))
    (λ v e. rw e (λ m. (dequeue_in v.ticket s.waits w (end_each_within n f (with_waits s (dequeue v.ticket s.waits)) w m)).0))

admits_quiet : (w : Wait) (time : ℕ) (s : State) → Quiet s → (w.owner ≡ 0 → ⊥) → Quiet (admits w time s).state
unfolding admits
admits_quiet w time s q o = by_option (attempt s.objects w)
    (λ e. rw e (by_bool (time_up w.timeout time) (λ t. rw t q)
    (λ f. rw f (λ v m. ⊎_elim (λ (p : v ≡ w). rw (p, e)) (λ k. q v k) (enqueue_in w s.waits v m)))))
    (λ t e. rw e (less_quiet s _ (acquire_each_less w.owner s.objects t.handles o
    (λ h i. signaled_mine w.owner (object_at s.objects h) (attempt_signaled s.objects w t e h i))) q))

-- a change leaves no unconcerned wait that could be served
pub change_unaffected : (op : Operation) (s : State) → Accepted (refusals op s) → Settled s → Unaffected (change op s).changed (change op s).state
unfolding refusals change admits
change_unaffected (create k x y) s a t = λ w m n. create_quiet s (new_object k x y) t.valid t.quiet w m
change_unaffected (close h) s a t = λ w m n. less_quiet s (put_at s.objects h empty) (put_less s.objects h empty (λ p e. clash e refl)) t.quiet w m
change_unaffected (reset_event h) s a t = λ w m n. less_quiet s _ (put_less s.objects h _ (λ p. reset_less (object_at s.objects h) p a)) t.quiet w m
change_unaffected (read k h) s a t = λ w m n. t.quiet w m
change_unaffected (signal how h) s a t = put_unaffected s h _ t.quiet
change_unaffected (wait mode hs o f p al ti now) s a t = λ w m n. admits_quiet (new_wait mode hs o f al ti s.next) now s t.quiet
    (eqb-false o 0 (fault_free (wait_faults mode hs o f p al s.objects) a.0 3)) w m
change_unaffected (expire c ti) s a t = λ w m n. within_quiet s (end_each (length s.waits) (due c ti) s).state (end_each_objects (length s.waits) (due c ti) s) (end_each_within (length s.waits) (due c ti) s) t.quiet w m
change_unaffected (cancel ti) s a t = λ w m n. within_quiet s (with_waits s (dequeue ti s.waits)) refl (λ w m. (dequeue_in ti s.waits w m).0) t.quiet w m
change_unaffected snapshot s a t = λ w m n. t.quiet w m

clear_quiet : (h : ℕ) (s : State) → Quiet s → Quiet (clear h s)
clear_quiet h s q = less_quiet s _ (put_less s.objects h (cleared (object_at s.objects h)) (λ p. cleared_less p (object_at s.objects h))) q

-- the walk of a change is the search
same_waking : (s : State) (c : Call) → WithinWidths c → Settled s → Accepted (conditions c s)
    → wake_by_walk (change c.operation s).changed (change c.operation s).state ≡ wake_by_search (change c.operation s).changed (change c.operation s).state
same_waking s c fit t a = let d : Change = change c.operation s in
    walking_is_searching d.changed d.state (valid_consistent d.state (change_valid c.operation c.lent s fit a.1 t.valid)) (change_unaffected c.operation s a.1 t)

-- EACH CALL: the same outcome
pub step_same : (s : State) (c : Call) → WithinWidths c → Settled s → library_step s c ≡ reference_step s c
unfolding library_step reference_step
step_same s c fit t = by_option (first_refusal (conditions c s))
    (λ e. rw (e, same_waking s c fit t (accepted (conditions c s) e)))
    (λ n e. rw e)

step_quiet : (s : State) (c : Call) → WithinWidths c → Settled s → Quiet (reference_step s c).held
unfolding reference_step
step_quiet s c fit t = perform_case wake_by_search s c (λ o. Quiet o.held) (λ n e. t.quiet)
    (λ a. let d : Change = change c.operation s in clear_quiet d.clears (wake_by_search d.changed d.state).state
    (search_quiet (length d.state.waits) d.state (valid_consistent d.state (change_valid c.operation c.lent s fit a.1 t.valid)) (count_length _ d.state.waits)))

-- and again a settled state
pub step_settled : (s : State) (c : Call) → WithinWidths c → Settled s → Settled (reference_step s c).held
step_settled s c fit t = record {
  valid = rw (← (step_same s c fit t)) (step_valid s c fit t.valid);
  quiet = step_quiet s c fit t;
}

-- newly made
nothing_waiting : (n : ℕ) (w : Wait) → w is_in replicate n free → ⊥
nothing_waiting zero w m = m
nothing_waiting (suc n) w m = nothing_waiting n w m

initial_empty : (n h : ℕ) → object_at (replicate n empty) h ≡ empty
initial_empty n zero = refl
initial_empty zero (suc i) = refl
initial_empty (suc n) (suc zero) = refl
initial_empty (suc n) (suc (suc i)) = initial_empty n (suc i)

initial_distinct : (n : ℕ) → distinct_tickets (replicate n free) ≡ true
unfolding distinct_tickets
initial_distinct zero = refl
initial_distinct (suc n) = initial_distinct n

pub initial_settled : Settled initial
initial_settled = record {
  valid = record {
    places = length-replicate object_places empty;
    slots = length-replicate wait_places free;
    objects = λ h. ap valid_object (initial_empty object_places h);
    waits = λ w m. absurd (nothing_waiting wait_places w m);
    tickets = λ w m. absurd (nothing_waiting wait_places w m);
    distinct = initial_distinct wait_places;
    started = omega arith;
    bounded = lit< tt;
  };
  quiet = λ w m. absurd (nothing_waiting wait_places w m);
}
