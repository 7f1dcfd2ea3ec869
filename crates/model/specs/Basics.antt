-- The answers, and general tools that say nothing of synchronization.
use Rattle.std.specs.Prelude.{Bool, true, false, ◌&&◌, ◌||◌, List, [], ◌∷◌, ◌++◌, ℕ, zero, suc, eqb}
use Rattle.std.proofs.Math.Option.{Option, none, some}

-- THE ANSWERS (document 01, "What the caller hears")
pub data Answer : Type 0 where
  done invalid not_owner overflow owner_dead timed_out interrupted : Answer
  no_room tickets_spent corrupt busy queued list_short not_a_snapshot : Answer

abbrev pub number : Answer → ℕ
number done = 0  -- "the call took effect"
number invalid = 1  -- EINVAL: "bad argument, see each call"
number not_owner = 2  -- EPERM: "owner doesn't hold the mutex"
number overflow = 3  -- EOVERFLOW: "post past the maximum"
number owner_dead = 4  -- EOWNERDEAD: "an abandoned mutex was acquired, or read"
number timed_out = 5  -- ETIMEDOUT: "time was up"
number interrupted = 6  -- EINTR: "a queued wait was cancelled"
number no_room = 7  -- "no empty object or wait place"
number tickets_spent = 8  -- "next ticket is 2^64-1"
number corrupt = 9  -- "damaged tables"
number busy = 10  -- "closing an object that a queued wait names"
number queued = 11  -- "the wait has a ticket"
number list_short = 12  -- "wake list under 32 records, or picture buffer under 32,768 bytes" (5/13: 65,536)
number not_a_snapshot = 13  -- 3/13: "Anything else is new answer 13" (reading a text)

-- what an optional value is worth: b where there is none
abbrev pub maybe {ℓ κ} : {A : Type ℓ} {B : Type κ} → Option A → B → (A → B) → B
maybe none b f = b
maybe (some a) b f = f a

-- a flag as a number
abbrev pub bit : Bool → ℕ
bit false = 0
bit true = 1

-- one of the tests holds; all of them do
unfoldable pub any_of : List Bool → Bool
any_of [] = false
any_of (b ∷ bs) = b || any_of bs

unfoldable pub all_of : List Bool → Bool
all_of [] = true
all_of (b ∷ bs) = b && all_of bs

-- h stands in the list; some number stands in it twice
unfoldable pub member : ℕ → List ℕ → Bool
member h [] = false
member h (k ∷ ks) = eqb h k || member h ks

unfoldable pub has_repeat : List ℕ → Bool
has_repeat [] = false
has_repeat (h ∷ hs) = member h hs || has_repeat hs

-- f 0, f 1, .. f (n - 1)
unfoldable pub tabulate {ℓ} : {A : Type ℓ} → ℕ → (ℕ → A) → List A
tabulate zero f = []
tabulate (suc n) f = f 0 ∷ tabulate n (λ i. f (suc i))

-- the texts or cells of the elements, end to end
unfoldable pub joined {ℓ} : {A : Type ℓ} → (A → List ℕ) → List A → List ℕ
joined f [] = []
joined f (x ∷ xs) = f x ++ joined f xs

-- every element has the property
abbrev pub All {ℓ} : {A : Type ℓ} → (A → Type 0) → List A → Type 0
All P [] = Unit {0}
All P (x ∷ xs) = P x × All P xs

-- the front takes the place of as many cells, of those that there are; the rest is unaltered
abbrev pub overwrite : List ℕ → List ℕ → List ℕ
overwrite [] cells = cells
overwrite (x ∷ front) [] = []
overwrite (x ∷ front) (c ∷ cells) = x ∷ overwrite front cells
