-- What creating and cancelling leave: the lowest empty place has the new object; the wait is gone.
use mathlib.Core.Path.{◌≡◌, refl}
use mathlib.Core.Bool.{true}
use mathlib.Core.List.{List}
use Prim.Native.Nat.{ℕ, zero, suc, ◌≤◌, ◌<◌}
use native.Mathlib.Omega.{arith}
use lib.ListN.{length, get_or}
use lib.Seq.{get_or-set_same}
use borrow.Author.Tests.{ltb-false}
use Rattle.model.specs.Basics.{member}
use Rattle.model.specs.Objects.{Object, empty, occupied}
use Rattle.model.specs.Waits.{Wait, State, with_waits, object_at, put_at, put_object, dequeue, wake_by_walk}
use Rattle.model.specs.Calls.{Kind, create, cancel, Lent, Call, asks, lowest_empty, new_handle, new_object, change}
use Rattle.model.specs.Calls.{refusals}
use Rattle.model.specs.Steps.{library_step}
use Rattle.model.specs.Notions.{◌is_in◌}
use Rattle.model.proofs.Queue.{dequeue_in}
use Rattle.model.proofs.Waking.{walk_nothing}
use Rattle.model.proofs.Rules.{perform_case, lowest_place}
use Rattle.model.proofs.Answers.{refusal_never}

-- the place of handle h was empty, no lower one was, and it has the object x now
abbrev pub LowestFilled : ℕ → Object → List Object → List Object → Type 0
LowestFilled h x os next = (object_at os h ≡ empty) × ((j : ℕ) → 0 < j → j < h → occupied (object_at os j) ≡ true)
    × (object_at next h ≡ x)

lowest_filled : (os : List Object) (x : Object) → lowest_empty 1 os ≤ length os
    → LowestFilled (lowest_empty 1 os) x os (put_at os (lowest_empty 1 os) x)
lowest_filled os x room = let r = lowest_place os in let i : lowest_empty 1 os ≡ suc r.0 = r.1 in
    let l : r.0 < length os = omega (arith, i, room) in
    rw i (r.2, lower r.0 r.3, get_or-set_same os r.0 x empty l)
  where
    lower : (i : ℕ) → ((j : ℕ) → j < i → occupied (get_or os j empty) ≡ true) → (j : ℕ) → 0 < j → j < suc i → occupied (object_at os j) ≡ true
    lower i f zero a b = absurd (let z : ⊥ = omega arith in z)
    lower i f (suc j) a b = f j (omega arith)

pub step_creates : (k : Kind) (x y : ℕ) (l : Lent) (s : State) → let r = library_step s (asks (create k x y) l) in
    r.answer ≡ 0 → LowestFilled r.first (new_object k x y) s.objects r.held.objects
unfolding library_step change refusals member
step_creates k x y l s = let c : Call = asks (create k x y) l in
    perform_case wake_by_walk s c (λ r. r.answer ≡ 0 → LowestFilled r.first (new_object k x y) s.objects r.held.objects)
    (λ n e z. absurd (refusal_never c s n 0 refl e z))
    (λ a z. rw (walk_nothing (length s.waits) 0 (put_object s (new_handle s) (new_object k x y)))
    (lowest_filled s.objects (new_object k x y) (ltb-false (length s.objects) (new_handle s) a.1.1.0)))

pub step_cancels : (k : ℕ) (l : Lent) (s : State) → let r = library_step s (asks (cancel k) l) in
    r.answer ≡ 6 → (v : Wait) → v is_in r.held.waits → v.ticket ≡ k → ⊥
unfolding library_step change refusals member
step_cancels k l s = let c : Call = asks (cancel k) l in
    perform_case wake_by_walk s c (λ r. r.answer ≡ 6 → (v : Wait) → v is_in r.held.waits → v.ticket ≡ k → ⊥)
    (λ n e z. absurd (refusal_never c s n 6 refl e z))
    (λ a z. rw (walk_nothing (length (dequeue k s.waits)) 0 (with_waits s (dequeue k s.waits)))
    (λ v m. (dequeue_in k s.waits v m).1))
