-- A semaphore's maximum is not 0 (4/13): which creations are refused, and that each one in valid tables can be signaled.
use mathlib.Core.Path.{◌≡◌, refl}
use mathlib.Core.Bool.{true, false}
use mathlib.Core.List.{List}
use mathlib.Core.Logic.{◌⊎◌, inl, inr, ⊎_elim, ◌↔◌}
use Prim.Native.Nat.{ℕ, ◌+◌, ◌≤◌, ◌<◌}
use native.Mathlib.Omega.{arith}
use lib.ListN.{length}
use lib.Dec.{ltb}
use borrow.Author.Tests.{ltb-true, ltb-false, eqb-true, eqb-false, le-ltb}
use Rattle.model.specs.Objects.{semaphore, never_signaled}
use Rattle.model.specs.Waits.{State, object_at}
use Rattle.model.specs.Calls.{a_semaphore, post, create, signal, Lent, asks, least, new_handle, refusals, change}
use Rattle.model.specs.Layout.{view, valid_object, valid_tables}
use Rattle.model.specs.Steps.{first_refusal, library_step, table_step}
use Rattle.model.specs.Notions.{LongEnough}
use Rattle.model.proofs.Logic.{by_bool, passed}
use Rattle.model.proofs.Validity.{tables_valid}
use Rattle.model.proofs.Valid.{Valid}
use Rattle.model.proofs.Literal.{has_maximum}

step_semaphore : (s : State) (c m : ℕ) (l : Lent) → ((library_step s (asks (create a_semaphore c m) l)).answer ≡ 1) ↔ ((m < c) ⊎ (m ≡ 0))
unfolding library_step first_refusal refusals least change
step_semaphore s c m l =
    let a : ltb (length l.wake) 0 ≡ false = le-ltb (length l.wake) 0 (omega arith) in
    let b : ltb (length l.buffer) 0 ≡ false = le-ltb (length l.buffer) 0 (omega arith) in
    by_bool (ltb m c) (λ y. rw (a, b, y) (λ q. inl (ltb-true m c y), λ q. refl))
    (λ n. by_bool (never_signaled m) (λ y. rw (a, b, n, y) (λ q. inr (eqb-true m 0 y), λ q. refl))
    (λ f. let low : c ≤ m = ltb-false m c n in let above : m ≡ 0 → ⊥ = eqb-false m 0 f in
    let no : (m < c) ⊎ (m ≡ 0) → ⊥ = λ q. ⊎_elim (λ h. omega arith) above q in
    by_bool (ltb (length s.objects) (new_handle s))
    (λ y. rw (a, b, n, f, y) (λ (q : ◌≡◌ {A = ℕ} 7 1). absurd (let z : ⊥ = omega arith in z), λ q. absurd (no q)))
    (λ g. rw (a, b, n, f, g) (λ (q : ◌≡◌ {A = ℕ} 0 1). absurd (let z : ⊥ = omega arith in z), λ q. absurd (no q)))))

pub tables_semaphore : (t : List ℕ) → valid_tables t ≡ true → (c m : ℕ) (l : Lent)
    → ((table_step t (asks (create a_semaphore c m) l)).answer ≡ 1) ↔ ((m < c) ⊎ (m ≡ 0))
unfolding table_step
tables_semaphore t v c m l = rw v (step_semaphore (view t) c m l)

-- at count 0 there is room for one unit
step_post : (s : State) → Valid s → (h m : ℕ) → object_at s.objects h ≡ semaphore 0 m → (l : Lent) → LongEnough (asks (signal (post 1) h) l)
    → (library_step s (asks (signal (post 1) h) l)).answer ≡ 0
unfolding library_step first_refusal refusals least change
step_post s g h m e l w =
    let a = le-ltb _ _ w.0 in let b = le-ltb _ _ w.1 in
    let v : valid_object (semaphore 0 m) ≡ true = rw e at (g.objects h) in let (t0, (t1, (t2, t3))) = passed _ v in
    let room : ltb m (0 + 1) ≡ false = le-ltb m (0 + 1) (has_maximum m t2) in rw (a, b, e, room)

pub tables_post : (t : List ℕ) → valid_tables t ≡ true → (h m : ℕ) → object_at (view t).objects h ≡ semaphore 0 m → (l : Lent)
    → LongEnough (asks (signal (post 1) h) l) → (table_step t (asks (signal (post 1) h) l)).answer ≡ 0
unfolding table_step
tables_post t v h m e l w = rw v (step_post (view t) (tables_valid t v).1 h m e l w)
