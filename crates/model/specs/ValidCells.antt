-- Valid tables (01: sound) line by line, as document 01's list "Sound tables" has them, in terms of cells. Proved
-- equivalent to the test `valid_tables` both ways (`valid_exactly`), so "damaged exactly if" can be read off here.
use Rattle.std.specs.Prelude.{◌≡◌, List, ◌⊎◌, ℕ, ◌+◌, ◌-◌, ◌≤◌, ◌<◌, length, get_or}
use Rattle.model.specs.Sizes.{object_places, wait_places, max_listed, word32, word64}
use Rattle.model.specs.Layout.{header_size, wait_size, table_length, in_object, in_wait}

-- h is the handle of an object of some kind; of an event
pub record Occupied (t : List ℕ) (h : ℕ) : Type 0 where
  pub low : 1 ≤ h
  pub high : h ≤ object_places
  pub kind : in_object t (h - 1) 0 ≡ 0 → ⊥

pub record OfEvent (t : List ℕ) (h : ℕ) : Type 0 where
  pub low : 1 ≤ h
  pub high : h ≤ object_places
  pub kind : in_object t (h - 1) 0 ≡ 3

pub record ValidObject (kind count owner attribute : ℕ) : Type 0 where
  -- "every cell is in its range; empty places .. hold zeros"
  pub kinds : kind ≤ 3
  pub zeros : kind ≡ 0 → (count ≡ 0) × (owner ≡ 0) × (attribute ≡ 0)
  -- "a semaphore's count is at most its maximum"
  pub semaphore : kind ≡ 1 → (count ≤ attribute) × (attribute < word32) × (owner ≡ 0)
  -- 4/13: "maximum 0 .. tables holding such a semaphore are damaged"
  pub maximum : kind ≡ 1 → 1 ≤ attribute
  -- "a mutex's owner is 0 exactly when its count is 0; an abandoned mutex has owner 0"
  pub mutex : kind ≡ 2 → (owner < word32) × (count < word32) × (attribute ≤ 1)
  pub unowned : kind ≡ 2 → (owner ≡ 0 → count ≡ 0) × (count ≡ 0 → owner ≡ 0)
  pub abandoned : kind ≡ 2 → attribute ≡ 1 → owner ≡ 0
  -- "an event's two flags are 0 or 1"
  pub event : kind ≡ 3 → (count ≤ 1) × (attribute ≤ 1) × (owner ≡ 0)

-- "each queued wait has .."
pub record ValidWait (t : List ℕ) (p : ℕ) : Type 0 where
  -- "an owner other than 0"
  pub owner : (1 ≤ in_wait t p 2) × (in_wait t p 2 < word32)
  -- "a ticket of 1 or more [`queued` below] that no other wait has and that is below the next ticket"
  pub below : in_wait t p 0 < get_or t 0 0
  pub alone : (q : ℕ) → q < wait_places → in_wait t q 0 ≡ in_wait t p 0 → q ≡ p
  -- "a list of 1 to 64 occupied handles", and 1/13: "Sound tables allow n=0 for any"; "unused list cells hold zeros"
  pub listed : (in_wait t p 1 ≡ 1 → 1 ≤ in_wait t p 5) × (in_wait t p 5 ≤ max_listed)
  pub occupied : (k : ℕ) → k < in_wait t p 5 → Occupied t (in_wait t p (header_size + k))
  pub unused : (k : ℕ) → in_wait t p 5 ≤ k → k < max_listed → in_wait t p (header_size + k) ≡ 0
  -- "an alert that is 0 or an event's handle"
  pub alert : (in_wait t p 6 ≡ 0) ⊎ OfEvent t (in_wait t p 6)
  -- "every cell is in its range"
  pub mode : in_wait t p 1 ≤ 1
  pub clock : in_wait t p 3 ≤ 1
  pub timeout : in_wait t p 4 < word64
  -- "a wait for all has no handle twice, its alert included"
  pub once : in_wait t p 1 ≡ 1 → (k : ℕ) → k < in_wait t p 5
      → (in_wait t p (header_size + k) ≡ in_wait t p 6 → ⊥)
      × ((j : ℕ) → j < k → in_wait t p (header_size + j) ≡ in_wait t p (header_size + k) → ⊥)

pub record ValidCells (t : List ℕ) : Type 0 where
  -- "their lengths are those in docs/"
  pub size : length t ≡ table_length
  -- "the next ticket is 1 or more"
  pub next : (1 ≤ get_or t 0 0) × (get_or t 0 0 < word64)
  pub objects : (p : ℕ) → p < object_places
      → ValidObject (in_object t p 0) (in_object t p 1) (in_object t p 2) (in_object t p 3)
  -- "empty places .. hold zeros"
  pub free : (p : ℕ) → p < wait_places → in_wait t p 0 ≡ 0 → (j : ℕ) → j < wait_size → in_wait t p j ≡ 0
  pub queued : (p : ℕ) → p < wait_places → (in_wait t p 0 ≡ 0 → ⊥) → ValidWait t p
