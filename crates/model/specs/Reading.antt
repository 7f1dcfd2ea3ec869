-- The lines of a snapshot as they are due, read back (3/13). Which line is due follows from the counts and kinds read
-- so far.
use Rattle.std.specs.Prelude.{Bool, not, ◌&&◌, cond, List, [], ◌∷◌, ℕ, zero, suc, ◌+◌, ◌-◌, ◌*◌, length, drop, eqb, ltb, leb}
use Rattle.std.proofs.Math.Option.{Option, none, some}
use Prim.Native.String.{String}
use Rattle.model.specs.Sizes.{object_places, wait_places, max_listed, word32, never}
use Rattle.model.specs.Basics.{maybe}
use Rattle.model.specs.Objects.{Object, semaphore, mutex, event}
use Rattle.model.specs.Waits.{any, all, Wait}
use Rattle.model.specs.Calls.{Kind, a_semaphore, a_mutex, an_event}
use Rattle.model.specs.Snapshot.{ascii, line}

-- What comes of reading a text: a value and the rest after it, or the text from the first line that is not as due.
pub data Read (A : Type 0) : Type 0 where
  good : A → (rest : List ℕ) → Read A
  bad : (from : List ℕ) → Read A

abbrev pub Reader : Type 0 → Type 0
Reader A = List ℕ → Read A

abbrev pub by_read {ℓ} : {A : Type 0} {B : Type ℓ} → Read A → (List ℕ → B) → (A → List ℕ → B) → B
by_read (good a rest) b g = g a rest
by_read (bad from) b g = b from

-- one reading after another; no line; as many as counted
infixl 10 ◌>>=◌
unfoldable pub ◌>>=◌ : {A B : Type 0} → Reader A → (A → Reader B) → Reader B
◌>>=◌ m f text = by_read (m text) (λ from. bad from) (λ a rest. f a rest)

unfoldable pub give : {A : Type 0} → A → Reader A
give a text = good a text

unfoldable pub times : {A : Type 0} → ℕ → Reader A → Reader (List A)
times zero m = give []
times (suc n) m = do
  a ← m
  l ← times n m
  give (a ∷ l)

-- the rest of a text that begins with this front
unfoldable pub after : List ℕ → List ℕ → Option (List ℕ)
after [] text = some text
after (b ∷ front) [] = none
after (b ∷ front) (c ∷ text) = let r = after front text in cond (eqb b c) r none

-- the number that a text's leading digits write, after n
unfoldable pub leading : ℕ → List ℕ → ℕ
leading n [] = n
leading n (b ∷ text) = let r = leading (10 * n + (b - 48)) text in cond (leb 48 b && ltb b 58) r n

-- "the key due there, a plain number .. in that key's range, and its line feed": from low to high, and the line is the
-- one that the writer writes of that number.
unfoldable pub number_line : String → ℕ → ℕ → Reader ℕ
number_line key low high text = let n = leading 0 (drop (length (ascii key)) text) in
    cond (leb low n && leb n high) (maybe (after (line key n) text) (bad text) (λ rest. good n rest)) (bad text)

-- ".. or word": one of these lines
unfoldable pub word_line : {A : Type 0} → List (String × A) → Reader A
word_line [] text = bad text
word_line (w ∷ ws) text = let r = word_line ws text in maybe (after (ascii w.0) text) r (λ rest. good w.1 rest)

-- "Ranges: handle and obj 1 to 128 [512 by 5/13], alert and objects 0 to 128 [512], waits 0 to 32, n 0 to 64, next and
-- wait 1 to 2^64-1, flags 0 or 1, else the whole width."
abbrev pub number32_line : String → Reader ℕ
number32_line key = number_line key 0 (word32 - 1)

abbrev pub flag_line : String → Reader Bool
flag_line key = number_line key 0 1 >>= λ n. give (not (eqb n 0))

unfoldable pub read_values : Kind → Reader Object
read_values a_semaphore = do
  c ← number32_line "count="
  m ← number32_line "max="
  give (semaphore c m)
read_values a_mutex = do
  o ← number32_line "owner="
  c ← number32_line "count="
  a ← flag_line "abandoned="
  give (mutex o c a)
read_values an_event = do
  s ← flag_line "signaled="
  m ← flag_line "manual="
  give (event s m)

-- an object with its handle
unfoldable pub read_object : Reader (ℕ × Object)
read_object = do
  h ← number_line "handle=" 1 object_places
  k ← word_line (("kind=sem\n", a_semaphore) ∷ ("kind=mutex\n", a_mutex) ∷ ("kind=event\n", an_event) ∷ [])
  x ← read_values k
  give (h, x)

unfoldable pub read_wait : Reader Wait
read_wait = do
  t ← number_line "wait=" 1 never
  m ← word_line (("mode=any\n", any) ∷ ("mode=all\n", all) ∷ [])
  o ← number32_line "owner="
  c ← word_line (("clock=mono\n", 0) ∷ ("clock=real\n", 1) ∷ [])
  e ← number_line "timeout=" 0 never
  a ← number_line "alert=" 0 object_places
  n ← number_line "n=" 0 max_listed
  l ← times n (number_line "obj=" 1 object_places)
  give record { ticket = t; mode = m; owner = o; clock = c; timeout = e; alert = a; list = l }

-- THE WHOLE TEXT, line after line
pub record Lines : Type 0 where
  pub next : ℕ
  pub objects : List (ℕ × Object)
  pub waits : List Wait
  pub sum : ℕ

unfoldable pub read_snapshot : Reader Lines
read_snapshot = do
  t ← number_line "next=" 1 never
  k ← number_line "objects=" 0 object_places
  os ← times k read_object
  m ← number_line "waits=" 0 wait_places
  ws ← times m read_wait
  u ← number32_line "sum="
  give record { next = t; objects = os; waits = ws; sum = u }
