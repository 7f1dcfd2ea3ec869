-- Objects: the three kinds, when one is signaled, and what acquiring makes of it (document 01, "Calls").
use Rattle.std.specs.Prelude.{Bool, true, false, ◌&&◌, ◌||◌, ℕ, suc, pred, eqb, ltb}
use Rattle.model.specs.Sizes.{mutex_ceiling}

-- "the object places, each empty or with a kind and its values"
pub data Object : Type 0 where
  empty : Object
  semaphore : (count max : ℕ) → Object
  mutex : (owner count : ℕ) → (abandoned : Bool) → Object
  event : (signaled manual : Bool) → Object

-- a value for each kind
abbrev pub by_kind {ℓ} : {A : Type ℓ} → Object → A → (ℕ → ℕ → A) → (ℕ → ℕ → Bool → A) → (Bool → Bool → A) → A
by_kind empty none sem mut evt = none
by_kind (semaphore c m) none sem mut evt = sem c m
by_kind (mutex o c a) none sem mut evt = mut o c a
by_kind (event s m) none sem mut evt = evt s m

abbrev pub occupied : Object → Bool
occupied x = by_kind x false (λ c m. true) (λ o c a. true) (λ s m. true)

abbrev pub is_event : Object → Bool
is_event x = by_kind x false (λ c m. false) (λ o c a. false) (λ s m. true)

abbrev pub abandoned : Object → Bool
abandoned x = by_kind x false (λ c m. false) (λ o c a. a) (λ s m. false)

-- "Signaled: a semaphore with count above 0; a mutex that is unowned or owned by the asking owner, and whose count is
-- below 4,294,967,295 (that ceiling is house); an event that is set."
abbrev pub signaled : ℕ → Object → Bool
signaled asking empty = false
signaled asking (semaphore c m) = ltb 0 c
signaled asking (mutex o c a) = (eqb o 0 || eqb o asking) && ltb c mutex_ceiling
signaled asking (event s m) = s

-- 4/13, "Semaphores that can never be signaled", by their maximum. "Creating with maximum 0 is EINVAL from now on
-- (house), and tables holding such a semaphore are damaged."
abbrev pub never_signaled : (max : ℕ) → Bool
never_signaled m = eqb m 0

-- "Acquiring: a semaphore loses one; a mutex gains one and takes the owner, and is no longer abandoned; an auto-reset
-- event clears; a manual-reset event stays. Acquiring hands back the object's next state" (this) "and whether it had
-- been abandoned" (`abandoned`).
abbrev pub acquired : ℕ → Object → Object
acquired asking empty = empty
acquired asking (semaphore c m) = semaphore (pred c) m
acquired asking (mutex o c a) = mutex asking (suc c) false
acquired asking (event s true) = event s true
acquired asking (event s false) = event false false

-- "Pulse sets, wakes, then clears."
abbrev pub cleared : Object → Object
cleared x = by_kind x x (λ c m. x) (λ o c a. x) (λ s m. event false m)
