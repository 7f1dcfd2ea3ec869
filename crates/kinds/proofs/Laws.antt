-- What the rules come to on each way through the code.
use Prim.Native.Nat.{ℕ, ◌+◌, ◌<◌}
use mathlib.Core.Path.{◌≡◌, refl, ap, sym, ◌∙◌}
use mathlib.Core.Bool.{Bool, true, false, not, ◌&&◌, ◌||◌, cond, and_assoc, and-true, beq}
use mathlib.Core.List.{List, [], ◌∷◌}
use borrow.Author.Tests.{lt-ltb, le-ltb, leb-true, leb-false}
use lib.Dec.{eqb, ltb, leb, leb-suc-suc}
use Rattle.model.specs.Basics.{bit, all_of}
use Rattle.model.specs.Sizes.{mutex_ceiling, word32}
use Rattle.model.specs.Objects.{never_signaled}
use Rattle.model.specs.Calls.{Kind, a_semaphore, a_mutex, an_event, bad_new}
use Rattle.model.proofs.Logic.{by_bool, not_twice, not_or, one_or_more}
use Rattle.cells.specs.Objects.{Fields, fields, no_fields, changed, acquired_fields}
use Rattle.cells.specs.Validity.{valid_fields}
use Rattle.cells.specs.Calls.{new_fields}
use Rattle.std.specs.Bool.{then_some}
use Rattle.std.specs.Option.{ok_or}
use Rattle.kinds.specs.Values.{cells_of, changed_by, creation}
use Rattle.kinds.specs.declared.object.Object.{Object}
use Rattle.kinds.specs.Refusals.{number_of}
use Rattle.kinds.specs.declared.refusal.Refusal.{Refusal}
use Rattle.kinds.specs.declared.refusal.Refusal.TheVariants.{Invalid, NotOwner, Overflow, NoRoom, TicketsSpent, Corrupt, Busy, ListShort, NotASnapshot}

-- a test and its converse
not_more : (a b : ℕ) → leb a b ≡ not (ltb b a)
not_more a b = by_bool (leb a b) (λ y. rw (y, le-ltb b a (leb-true a b y))) (λ n. rw (n, lt-ltb b a (leb-false a b n)))

-- tests joined one after another
abbrev pub joined_left : Bool → List Bool → Bool
joined_left a [] = a
joined_left a (b ∷ bs) = joined_left (a && b) bs

pub all_left : (a : Bool) (bs : List Bool) → joined_left a bs ≡ all_of (a ∷ bs)
unfolding all_of
all_left a [] = sym (and-true a)
all_left a (b ∷ bs) = all_left (a && b) bs ∙ and_assoc a b (all_of bs)

same_bits : (a b : Bool) → beq a b ≡ eqb (bit a) (bit b)
same_bits true true = refl
same_bits true false = refl
same_bits false true = refl
same_bits false false = refl

-- at most the highest number of 32 bits
abbrev pub highest : ℕ
highest = 4294967295

pub has_32_bits : (n : ℕ) → leb n highest ≡ ltb n word32
has_32_bits n = sym (leb-suc-suc n highest)

-- the numbers of each kind
pub semaphore_valid : (count max : ℕ) → joined_left (leb count max) (leb max highest ∷ leb 1 max ∷ []) ≡ valid_fields (fields 1 count 0 max)
unfolding valid_fields all_of
semaphore_valid count max = rw (has_32_bits max, one_or_more max) (all_left (leb count max) (ltb max word32 ∷ not (never_signaled max) ∷ []))

pub mutex_valid : (owner count abandoned : ℕ) → joined_left (leb owner highest) (leb count highest ∷ leb abandoned 1 ∷ beq (eqb owner 0) (eqb count 0) ∷ (eqb abandoned 0 || eqb owner 0) ∷ [])
    ≡ valid_fields (fields 2 count owner abandoned)
unfolding valid_fields
mutex_valid owner count abandoned = rw (has_32_bits owner, has_32_bits count, same_bits (eqb owner 0) (eqb count 0))
    (all_left (ltb owner word32) (ltb count word32 ∷ leb abandoned 1 ∷ eqb (bit (eqb owner 0)) (bit (eqb count 0)) ∷ (eqb abandoned 0 || eqb owner 0) ∷ []))

pub event_valid : (signaled manual : ℕ) → (leb signaled 1 && leb manual 1) ≡ valid_fields (fields 3 signaled 0 manual)
unfolding valid_fields all_of
event_valid signaled manual = rw (and-true (leb manual 1))

-- CONSTRUCTORS: of numbers of 32 bits they refuse those of an object that is not valid
bit_small : (b : Bool) → leb (bit b) 1 ≡ true
bit_small true = refl
bit_small false = refl

new_valid : (k : Kind) (x y : ℕ) → x < word32 → y < word32 → valid_fields (new_fields k x y) ≡ not (bad_new k x y)
unfolding valid_fields all_of
new_valid a_semaphore x y hx hy = rw (lt-ltb y word32 hy, and-true (not (never_signaled y)), not_more x y) (not_or (ltb y x) (never_signaled y))
new_valid a_mutex x y hx hy = rw (lt-ltb x word32 hx, lt-ltb y word32 hy, and-true (eqb (bit (eqb x 0)) (bit (eqb y 0)))) (not_twice (eqb (bit (eqb x 0)) (bit (eqb y 0))))
new_valid an_event x y hx hy = rw (bit_small (not (eqb x 0)), bit_small (not (eqb y 0)))

made : (bad : Bool) (o : Object) {f : Fields} → cells_of o ≡ f → changed_by no_fields (ok_or (then_some (not bad) o) Invalid) ≡ cond bad (changed 1 no_fields) (changed 0 f)
made true o e = refl
made false o e = ap (changed 0) e

pub created : (k : Kind) (x y : ℕ) {valid : Bool} {o : Object} → x < word32 → y < word32 → valid ≡ valid_fields (new_fields k x y) → cells_of o ≡ new_fields k x y
    → changed_by no_fields (ok_or (then_some valid o) Invalid) ≡ creation k x y
created k x y {valid} {o} hx hy v e = let b : valid ≡ not (bad_new k x y) = v ∙ new_valid k x y hx hy in rw b (made (bad_new k x y) o e)

-- no refusal's number is that of success
pub refuses : (r : Refusal) → eqb (number_of r) 0 ≡ false
refuses Invalid = refl
refuses NotOwner = refl
refuses Overflow = refl
refuses NoRoom = refl
refuses TicketsSpent = refl
refuses Corrupt = refl
refuses Busy = refl
refuses ListShort = refl
refuses NotASnapshot = refl

-- a mutex gains one and takes the owner
pub acquired_mutex : (asking : ℕ) (x : Fields) → x.kind ≡ 2 → x.count < mutex_ceiling → fields 2 (x.count + 1) asking 0 ≡ acquired_fields asking x
unfolding acquired_fields
acquired_mutex asking x k l = rw (k, lt-ltb x.count mutex_ceiling l)
