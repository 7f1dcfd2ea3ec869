-- Two slips of document 01 as libraries, and a history that tells each from ours. The code has an edit for each too (signals
-- unlock_wakes_only_at_zero, attempt all_keeps_part): those show that a contract refuses the slip, these that a host would see it.
use mathlib.Core.Path.{◌≡◌, ap}
use mathlib.Core.Bool.{Bool, false, cond}
use mathlib.Core.List.{List, [], ◌∷◌}
use Prim.Native.Nat.{ℕ}
use native.Mathlib.Omega.{arith}
use lib.Dec.{eqb, ltb}
use lib.ListN.{length, get_or, replicate}
use Rattle.model.specs.Sizes.{mutex_ceiling, never, wake_length}
use Rattle.model.specs.Basics.{any_of, member, has_repeat, joined}
use Rattle.model.specs.Objects.{Object, by_kind, signaled, acquired}
use Rattle.model.specs.Waits.{any, all, State, initial, with_objects, object_at, put_at, lowest_signaled, all_signaled, look, attempt, acquire_each, any_abandoned, dequeue, oldest, concerned_by, Woken, none_woken, serve, try_to_serve, walk_queue, wake_by_walk}
use Rattle.model.specs.Calls.{Operation, create, close, reset_event, read, signal, wait, expire, cancel, snapshot, a_semaphore, a_mutex, an_event, unlock, Call, wake_lent, asks, least, lowest_empty, all_occupied, waits_full, enqueue, refusals, admits, end_each, change}
use Rattle.model.specs.Steps.{Outcome, first_refusal, records, perform, library_step, run}

abbrev calls : List Operation → List Call
calls [] = []
calls (op ∷ ops) = asks op (wake_lent (replicate wake_length 0)) ∷ calls ops

-- "Waking after unlock only when the count reaches zero."
abbrev held : Object → Bool
held x = by_kind x false (λ c m. false) (λ o c a. ltb 0 c) (λ s m. false)

abbrev wake_at_zero : List ℕ → State → Woken
wake_at_zero [] s = none_woken s
wake_at_zero (h ∷ hs) s = cond (held (object_at s.objects h)) (none_woken s) (wake_by_walk (h ∷ hs) s)

-- P9
abbrev unlocked : List Call
unlocked = calls (create a_mutex 5 mutex_ceiling ∷ wait any (1 ∷ []) 5 0 0 0 never 0 ∷ signal (unlock 5) 1 ∷ [])

abbrev woken : List (Outcome State) → ℕ
woken os = length (joined (λ o. records o.reports) os)

pub unlock_wakes_at_zero : run (perform wake_at_zero) initial unlocked ≡ run library_step initial unlocked → ⊥
unfolding lowest_signaled all_signaled look attempt acquire_each any_abandoned dequeue oldest serve try_to_serve member concerned_by walk_queue library_step first_refusal records run refusals change least lowest_empty waits_full enqueue all_occupied has_repeat any_of admits end_each joined
unlock_wakes_at_zero e = let z : ◌≡◌ {A = ℕ} 0 3 = ap woken e in let w : ⊥ = omega arith in w

-- "Taking the objects of a wait for all one by one, and keeping them when a later one is not signaled."
unfoldable pub take_while : ℕ → List Object → List ℕ → List Object
take_while asking os [] = os
take_while asking os (h ∷ hs) = let on = take_while asking (put_at os h (acquired asking (object_at os h))) hs in cond (signaled asking (object_at os h)) on os

abbrev kept : Operation → State → State
kept (create k x y) s = s
kept (close h) s = s
kept (reset_event h) s = s
kept (read k h) s = s
kept (signal how h) s = s
kept (wait mode hs o f p a t now) s = with_objects s (take_while o s.objects hs)
kept (expire c t) s = s
kept (cancel t) s = s
kept snapshot s = s

abbrev keeps_part : State → Call → Outcome State
keeps_part s c = let o = library_step s c in
    record { answer = o.answer; first = o.first; second = o.second; reports = o.reports; lent = o.lent; held = cond (eqb o.answer 11) (kept c.operation o.held) o.held }

-- P1, then the semaphore is read
abbrev queued_for_all : List Call
queued_for_all = calls (create a_semaphore 1 2 ∷ create an_event 0 1 ∷ wait all (1 ∷ 2 ∷ []) 7 0 0 0 never 0 ∷ read a_semaphore 1 ∷ [])

abbrev numbers : List (Outcome State) → List ℕ
numbers os = joined (λ o. o.first ∷ []) os

pub all_keeps_part : run keeps_part initial queued_for_all ≡ run library_step initial queued_for_all → ⊥
unfolding lowest_signaled all_signaled look attempt acquire_each any_abandoned dequeue oldest serve try_to_serve member concerned_by walk_queue library_step first_refusal records run refusals change least lowest_empty waits_full enqueue all_occupied has_repeat any_of admits end_each joined take_while
all_keeps_part e = let z : ◌≡◌ {A = ℕ} 0 1 = ap (λ (os : List (Outcome State)). get_or (numbers os) 3 0) e in let w : ⊥ = omega arith in w
