-- Cases on computed values, and laws of tests.
use mathlib.Core.Path.{◌≡◌, refl, sym}
use mathlib.Core.Bool.{Bool, true, false, not, ◌&&◌, ◌||◌}
use mathlib.Core.List.{List, [], ◌∷◌}
use mathlib.Core.Option.{Option, none, some}
use Prim.Native.Nat.{ℕ, zero, suc, ◌<◌}
use native.Mathlib.Omega.{arith}
use lib.ListN.{length, get_or}
use lib.Dec.{eqb, leb}
use borrow.Author.Tests.{le-leb, eq-eqb, eqb-true, eqb-false}
use Rattle.model.specs.Basics.{maybe, any_of, all_of, member}

pub by_bool {ℓ} : {P : Type ℓ} (b : Bool) → (b ≡ true → P) → (b ≡ false → P) → P
by_bool true t f = t refl
by_bool false t f = f refl

pub by_option {ℓ κ} : {A : Type ℓ} {P : Type κ} (o : Option A) → (o ≡ none → P) → ((a : A) → o ≡ some a → P) → P
by_option none n s = n refl
by_option (some a) n s = s a refl

abbrev pub is_some {ℓ} : {A : Type ℓ} → Option A → Bool
is_some o = maybe o false (λ a. true)

pub clash {ℓ} : {P : Type ℓ} {b : Bool} → b ≡ true → b ≡ false → P
clash {b = b} t f = let z : ◌≡◌ {A = ℕ} 0 1 = cc in absurd (omega arith)

-- what `cc` shows of two constructors that differ
pub differ {ℓ} : {P : Type ℓ} → ◌≡◌ {A = ℕ} 0 1 → P
differ z = absurd (let h : ⊥ = omega arith in h)

-- one test implies another
infix 30 ◌implies◌
abbrev pub ◌implies◌ : Bool → Bool → Type 0
◌implies◌ a b = a ≡ true → b ≡ true

pub same_tests : (a b : Bool) → a implies b → b implies a → a ≡ b
same_tests true b f g = sym (f refl)
same_tests false true f g = g refl
same_tests false false f g = refl

pub not_true : (b : Bool) → not b ≡ true → b ≡ false
not_true true e = clash e refl
not_true false e = refl

pub not_false : (b : Bool) → not b ≡ false → b ≡ true
not_false true e = refl
not_false false e = clash refl e

pub not_twice : (b : Bool) → b ≡ not (not b)
not_twice true = refl
not_twice false = refl

pub and_split : (a b : Bool) → (a && b) ≡ true → (a ≡ true) × (b ≡ true)
and_split true true e = (refl, refl)
and_split true false e = clash e refl
and_split false true e = clash e refl
and_split false false e = clash e refl

pub and_mono : (a b a' b' : Bool) → a implies a' → b implies b' → (a && b) implies (a' && b')
and_mono a b a' b' p q e = let r = and_split a b e in rw (p r.0, q r.1)

pub or_left : (a b : Bool) → a ≡ true → (a || b) ≡ true
or_left a b e = rw e

pub or_right : (a b : Bool) → b ≡ true → (a || b) ≡ true
or_right true b e = refl
or_right false b e = e

pub or_false_at : (a : Bool) → (a || false) ≡ true → a ≡ true
or_false_at true e = refl
or_false_at false e = e

pub or_mono : (a b a' b' : Bool) → a implies a' → b implies b' → (a || b) implies (a' || b')
or_mono true b a' b' p q e = or_left a' b' (p refl)
or_mono false b a' b' p q e = or_right a' b' (q e)

pub or_split : (a b : Bool) → (a || b) ≡ false → (a ≡ false) × (b ≡ false)
or_split true b e = clash refl e
or_split false b e = (refl, e)

pub not_or : (a b : Bool) → (not a && not b) ≡ not (a || b)
not_or true b = refl
not_or false b = refl

pub one_or_more : (n : ℕ) → leb 1 n ≡ not (eqb n 0)
one_or_more n = by_bool (eqb n 0) (λ y. rw (eqb-true n 0 y)) (λ f. let z : n ≡ 0 → ⊥ = eqb-false n 0 f in rw f (le-leb 1 n (omega arith)))

pub eqb_same : (n : ℕ) → eqb n n ≡ true
eqb_same n = eq-eqb n n refl

-- members by their index
pub member_at : (a : ℕ) (hs : List ℕ) → member a hs ≡ true → (k : ℕ) × (k < length hs) × (get_or hs k 0 ≡ a)
unfolding member
member_at a [] e = clash e refl
member_at a (h ∷ hs) e = by_bool (eqb a h) (λ y. (0, omega arith, sym (eqb-true a h y)))
    (λ n. let r = member_at a hs (rw n at e) in let l : r.0 < length hs = r.1 in (suc r.0, omega arith, r.2))

pub at_member : (a : ℕ) (hs : List ℕ) (k : ℕ) → k < length hs → get_or hs k 0 ≡ a → member a hs ≡ true
unfolding member
at_member a [] k l e = absurd (let z : ⊥ = omega arith in z)
at_member a (h ∷ hs) zero l e = or_left (eqb a h) (member a hs) (rw e (eqb_same a))
at_member a (h ∷ hs) (suc k) l e = or_right (eqb a h) (member a hs) (at_member a hs k (omega arith) e)

-- lists of tests, test by test
abbrev pub Passed : List Bool → Type 0
Passed [] = Unit {0}
Passed (b ∷ bs) = (b ≡ true) × Passed bs

pub passed : (bs : List Bool) → all_of bs ≡ true → Passed bs
unfolding all_of
passed [] e = tt
passed (b ∷ bs) e = let r = and_split b (all_of bs) e in (r.0, passed bs r.1)

pub pass : (bs : List Bool) → Passed bs → all_of bs ≡ true
unfolding all_of
pass [] t = refl
pass (b ∷ bs) t = rw (t.0, pass bs t.1)

pub fault_free : (bs : List Bool) → any_of bs ≡ false → (i : ℕ) → get_or bs i false ≡ false
unfolding any_of
fault_free [] e i = refl
fault_free (b ∷ bs) e zero = (or_split b (any_of bs) e).0
fault_free (b ∷ bs) e (suc i) = fault_free bs (or_split b (any_of bs) e).1 i
