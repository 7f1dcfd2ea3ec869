-- The test of valid tables and the facts of valid states, both ways.
use mathlib.Core.Path.{◌≡◌, refl}
use mathlib.Core.Bool.{true, false, not, ◌&&◌}
use mathlib.Core.List.{List, [], ◌∷◌, map}
use Prim.Native.Nat.{ℕ, zero, suc}
use lib.Dec.{eqb, ltb}
use borrow.Author.Tests.{ltb-true, eqb-true, not-true, not-false, lt-ltb}
use Rattle.model.specs.Basics.{all_of}
use Rattle.model.specs.Layout.{encode, view, valid_object, valid_wait, valid_state, same_cells, valid_tables}
use Rattle.model.specs.Objects.{Object}
use Rattle.model.specs.Waits.{State, object_at, any_waiting}
use Rattle.model.proofs.Logic.{clash, and_split, eqb_same, passed, pass}
use Rattle.model.proofs.Valid.{Valid, none_waiting, waiting_none}
use Rattle.model.proofs.Cells.{view_encode}

pub same_refl : (l : List ℕ) → same_cells l l ≡ true
unfolding same_cells
same_refl [] = refl
same_refl (a ∷ l) = rw (eqb_same a, same_refl l)

pub same_eq : (l r : List ℕ) → same_cells l r ≡ true → l ≡ r
unfolding same_cells
same_eq [] [] e = refl
same_eq [] (b ∷ bs) e = clash e refl
same_eq (a ∷ ls) [] e = clash e refl
same_eq (a ∷ ls) (b ∷ bs) e = let r = and_split (eqb a b) (same_cells ls bs) e in rw (eqb-true a b r.0, same_eq ls bs r.1)

valid_at : (os : List Object) → all_of (map valid_object os) ≡ true → (h : ℕ) → valid_object (object_at os h) ≡ true
unfolding all_of
valid_at os e zero = refl
valid_at [] e (suc i) = refl
valid_at (x ∷ xs) e (suc zero) = (and_split (valid_object x) (all_of (map valid_object xs)) e).0
valid_at (x ∷ xs) e (suc (suc i)) = valid_at xs (and_split (valid_object x) (all_of (map valid_object xs)) e).1 (suc i)

at_valid : (os : List Object) → ((h : ℕ) → valid_object (object_at os h) ≡ true) → all_of (map valid_object os) ≡ true
unfolding all_of
at_valid [] f = refl
at_valid (x ∷ xs) f = rw (f 1, at_valid xs (λ h. elim h as (λ k. valid_object (object_at xs k) ≡ true) [ zero ↦ refl | suc i ↦ f (suc (suc i)) ]))

pub test_valid : (s : State) → valid_state s ≡ true → Valid s
test_valid s e = let (t0, (t1, (t2, (t3, (t4, (t5, (t6, (t7, t8)))))))) = passed _ e in record {
  places = eqb-true _ _ t0;
  slots = eqb-true _ _ t1;
  objects = valid_at s.objects t2;
  waits = λ w m. not-false _ (waiting_none (λ w. not (valid_wait s.objects w)) s.waits (not-true _ t3) w m);
  tickets = λ w m. let r = and_split (ltb 0 w.ticket) (ltb w.ticket s.next) (not-false _ (waiting_none (λ w. not (ltb 0 w.ticket && ltb w.ticket s.next)) s.waits (not-true _ t4) w m)) in
      (ltb-true _ _ r.0, ltb-true _ _ r.1);
  distinct = t5;
  started = ltb-true _ _ t6;
  bounded = ltb-true _ _ t7;
}

pub valid_test : (s : State) → Valid s → valid_state s ≡ true
valid_test s g =
    let a : any_waiting (λ w. not (valid_wait s.objects w)) s.waits ≡ false = none_waiting _ s.waits (λ w m. let z : valid_wait s.objects w ≡ true = g.waits w m in rw z) in
    let b : any_waiting (λ w. not (ltb 0 w.ticket && ltb w.ticket s.next)) s.waits ≡ false = none_waiting _ s.waits
    (λ w m. let z = g.tickets w m in rw (lt-ltb 0 w.ticket z.0, lt-ltb w.ticket s.next z.1)) in
    let p = g.places in let q = g.slots in let l = g.distinct in
    pass _ (rw p, (rw q, (at_valid s.objects g.objects, (rw a, (rw b, (l, (lt-ltb _ _ g.started, (lt-ltb _ _ g.bounded, tt))))))))

-- THE TEST ON TABLES
pub tables_valid : (t : List ℕ) → valid_tables t ≡ true → (t ≡ encode (view t)) × Valid (view t)
unfolding valid_tables
tables_valid t e = let r = and_split (same_cells t (encode (view t))) (valid_state (view t)) e in (same_eq _ _ r.0, test_valid (view t) r.1)

pub encoded_valid : (s : State) → Valid s → valid_tables (encode s) ≡ true
unfolding valid_tables
encoded_valid s g = rw (view_encode s g, same_refl (encode s)) (valid_test s g)
