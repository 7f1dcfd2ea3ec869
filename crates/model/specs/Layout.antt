-- The tables as one list of cells (docs/LAYOUT.md), the state that they show, and their validity (01: sound tables).
use Rattle.std.specs.Prelude.{Bool, true, false, not, ◌&&◌, ◌||◌, cond, List, [], ◌∷◌, ◌++◌, map, ℕ, ◌+◌, ◌*◌, length, get_or, replicate, take, eqb, ltb, leb}
use Rattle.model.specs.Sizes.{object_places, wait_places, max_listed, word32, word64}
use Rattle.model.specs.Basics.{bit, all_of, tabulate, joined}
use Rattle.model.specs.Objects.{Object, empty, semaphore, mutex, event, is_event, never_signaled}
use Rattle.model.specs.Waits.{Mode, any, all, Wait, WaitPlace, free, waiting, State, object_at, any_waiting}
use Rattle.model.specs.Calls.{list_too_short, all_occupied, repeats}

-- Cell 0 is the next ticket; then the object places, four cells each; then the wait places.
abbrev pub object_size : ℕ
object_size = 4

-- a wait: ticket (0: free), mode, owner, clock, timeout, number of listed handles, alert; then the list
abbrev pub header_size : ℕ
header_size = 7

abbrev pub wait_size : ℕ
wait_size = header_size + max_listed

abbrev pub waits_base : ℕ
waits_base = 1 + object_size * object_places

abbrev pub table_length : ℕ
table_length = waits_base + wait_size * wait_places

-- ENCODING. An object: its kind (0 empty, 1 semaphore, 2 mutex, 3 event), its count (an event's signaled flag), its
-- owner (a mutex's, else 0), its attribute (a semaphore's maximum, a mutex's abandoned flag, an event's manual flag).
unfoldable pub object_cells : Object → List ℕ
object_cells empty = 0 ∷ 0 ∷ 0 ∷ 0 ∷ []
object_cells (semaphore c m) = 1 ∷ c ∷ 0 ∷ m ∷ []
object_cells (mutex o c a) = 2 ∷ c ∷ o ∷ bit a ∷ []
object_cells (event s m) = 3 ∷ bit s ∷ 0 ∷ bit m ∷ []

abbrev pub mode_cell : Mode → ℕ
mode_cell any = 0
mode_cell all = 1

unfoldable pub wait_cells : WaitPlace → List ℕ
wait_cells free = replicate wait_size 0
wait_cells (waiting w) = w.ticket ∷ mode_cell w.mode ∷ w.owner ∷ w.clock ∷ w.timeout ∷ length w.list ∷ w.alert
    ∷ take max_listed (w.list ++ replicate max_listed 0)

unfoldable pub encode : State → List ℕ
encode s = s.next ∷ (joined object_cells s.objects ++ joined wait_cells s.waits)

-- READING. "the tables being read by their layout in docs/"; whatever the cells, they show some state.
abbrev pub object_of : ℕ → ℕ → ℕ → ℕ → Object
object_of kind count owner attribute = cond (eqb kind 0) empty (cond (eqb kind 1) (semaphore count attribute)
    (cond (eqb kind 2) (mutex owner count (not (eqb attribute 0))) (event (not (eqb count 0)) (not (eqb attribute 0)))))

-- cell j of object place p, of wait place p
abbrev pub in_object : List ℕ → ℕ → ℕ → ℕ
in_object t p j = get_or t (1 + object_size * p + j) 0

abbrev pub in_wait : List ℕ → ℕ → ℕ → ℕ
in_wait t p j = get_or t (waits_base + wait_size * p + j) 0

abbrev pub wait_of : (ℕ → ℕ) → WaitPlace
wait_of cell = cond (eqb (cell 0) 0) free (waiting record {
  ticket = cell 0;
  mode = cond (eqb (cell 1) 0) any all;
  owner = cell 2;
  clock = cell 3;
  timeout = cell 4;
  alert = cell 6;
  list = tabulate (cell 5) (λ k. cell (header_size + k));
})

unfoldable pub view : List ℕ → State
view t = record {
  objects = tabulate object_places
      (λ p. object_of (in_object t p 0) (in_object t p 1) (in_object t p 2) (in_object t p 3));
  waits = tabulate wait_places (λ p. wait_of (in_wait t p));
  next = get_or t 0 0;
}

-- VALIDITY, as a test; ValidCells.antt has document 01's list line by line, proved equivalent. "a semaphore's count is
-- at most its maximum", which is not 0 (4/13); "a mutex's owner is 0 exactly when its count is 0; an abandoned mutex
-- has owner 0"; ranges
abbrev pub valid_object : Object → Bool
valid_object empty = true
valid_object (semaphore c m) = all_of (leb c m ∷ ltb m word32 ∷ not (never_signaled m) ∷ [])
valid_object (mutex o c a) =
    all_of (ltb o word32 ∷ ltb c word32 ∷ eqb (bit (eqb o 0)) (bit (eqb c 0)) ∷ (not a || eqb o 0) ∷ [])
valid_object (event s m) = true

-- "each queued wait has an owner other than 0, .. a list of 1 to 64 occupied handles" (1/13: "Sound tables allow n=0
-- for any"), "and an alert that is 0 or an event's handle; a wait for all has no handle twice, its alert included"
abbrev pub valid_wait : List Object → Wait → Bool
valid_wait os w = all_of (not (eqb w.owner 0) ∷ ltb w.owner word32 ∷ ltb w.clock 2 ∷ ltb w.timeout word64
    ∷ not (list_too_short w.mode w.list) ∷ not (ltb max_listed (length w.list)) ∷ all_occupied os w.list
    ∷ (eqb w.alert 0 || is_event (object_at os w.alert)) ∷ not (repeats w.mode (w.alert ∷ w.list)) ∷ [])

-- "a ticket of 1 or more that no other wait has and that is below the next ticket"
unfoldable pub distinct_tickets : List WaitPlace → Bool
distinct_tickets [] = true
distinct_tickets (free ∷ ws) = distinct_tickets ws
distinct_tickets (waiting w ∷ ws) = not (any_waiting (λ v. eqb v.ticket w.ticket) ws) && distinct_tickets ws

abbrev pub valid_state : State → Bool
valid_state s = all_of (eqb (length s.objects) object_places ∷ eqb (length s.waits) wait_places
    ∷ all_of (map valid_object s.objects) ∷ not (any_waiting (λ w. not (valid_wait s.objects w)) s.waits)
    ∷ not (any_waiting (λ w. not (ltb 0 w.ticket && ltb w.ticket s.next)) s.waits)
    ∷ distinct_tickets s.waits ∷ ltb 0 s.next ∷ ltb s.next word64 ∷ [])

unfoldable pub same_cells : List ℕ → List ℕ → Bool
same_cells [] [] = true
same_cells [] (b ∷ bs) = false
same_cells (a ∷ cells) [] = false
same_cells (a ∷ cells) (b ∷ bs) = eqb a b && same_cells cells bs

-- the cells are those of the state that they show, and that state is valid
unfoldable pub valid_tables : List ℕ → Bool
valid_tables t = same_cells t (encode (view t)) && valid_state (view t)
