-- Every call behind its refusals, on cells; corrupt tables first.
use Rattle.std.specs.Prelude.{ℕ, ◌+◌, List, [], ◌∷◌, Bool, not, ◌&&◌, ◌||◌, cond, length, get_or, set, eqb, ltb, leb}
use Rattle.model.specs.Sizes.{object_places, wait_places, max_listed, word64, wake_length, snapshot_buffer}
use Rattle.model.specs.Basics.{bit, any_of, overwrite}
use Rattle.model.specs.Calls.{Operation, create, close, reset_event, read, signal, wait, expire, cancel, snapshot, Kind, a_semaphore, a_mutex, an_event, Signal, post, unlock, kill, set_event, pulse_event, Lent, Call, bad_new, time_up, nothing_lent}
use Rattle.model.specs.Layout.{header_size, table_length, mode_cell}
use Rattle.cells.specs.Fold.{fold_below, some_below, search_from}
use Rattle.cells.specs.Objects.{Fields, fields, no_fields, fields_at, put_fields, named, store, Changed, post_fields, unlock_fields, kill_fields, switch_fields}
use Rattle.cells.specs.Waits.{next_ticket, wait_cell, ticket_at, queued_at, names_at, clear_wait, has}
use Rattle.cells.specs.Attempt.{try_list}
use Rattle.cells.specs.Walk.{Walked, walked, wake_cells, end_cells}
use Rattle.cells.specs.Validity.{occupied_at, event_at, too_few, occupied_list, repeated_list, valid_cells}
use Rattle.cells.specs.Snapshot.{snapshot_of}

-- what a call leaves: its answer, its numbers, how many records are in the wake list, the tables, wake list and buffer
pub record Result : Type 0 where
  pub answer : ℕ
  pub first : ℕ
  pub second : ℕ
  pub woken : ℕ
  pub tables : List ℕ
  pub wake : List ℕ
  pub buffer : List ℕ

abbrev pub answered : ℕ → ℕ → ℕ → List ℕ → Lent → Result
answered a x y t l = record { answer = a; first = x; second = y; woken = 0; tables = t; wake = l.wake; buffer = l.buffer }

abbrev pub refused_with : ℕ → List ℕ → Lent → Result
refused_with a t l = answered a 0 0 t l

abbrev pub woke : ℕ → Walked → Lent → Result
woke x v l = record { answer = 0; first = x; second = 0; woken = v.count; tables = v.tables; wake = v.wake; buffer = l.buffer }

-- CREATING takes the lowest empty object place
unfoldable pub empty_object : List ℕ → ℕ
empty_object t = search_from (λ p. eqb (fields_at t p).kind 0) 0 object_places

unfoldable pub create_cells : Bool → Fields → List ℕ → Lent → Result
create_cells bad x t l = let p = empty_object t in
    cond bad (refused_with 1 t l) (cond (ltb p object_places) (answered 0 (p + 1) 0 (put_fields t p x) l) (refused_with 7 t l))

abbrev pub new_fields : Kind → ℕ → ℕ → Fields
new_fields a_semaphore c m = fields 1 c 0 m
new_fields a_mutex o c = fields 2 c o 0
new_fields an_event s m = fields 3 (bit (not (eqb s 0))) 0 (bit (not (eqb m 0)))

-- CLOSING: a queued wait names h
unfoldable pub busy_at : List ℕ → ℕ → ℕ → Bool
busy_at t h p = queued_at t p && names_at t h p

unfoldable pub close_cells : ℕ → List ℕ → Lent → Result
close_cells h t l = cond (occupied_at t h) (cond (some_below (busy_at t h) wait_places) (refused_with 10 t l) (answered 0 0 0 (store t h no_fields) l)) (refused_with 1 t l)

-- READING and RESETTING
abbrev pub read_pair : ℕ → ℕ → List ℕ → Lent → Result
read_pair kind h t l = cond (eqb (named t h).kind kind) (answered 0 (named t h).count (named t h).attribute t l) (refused_with 1 t l)

abbrev pub read_on : Kind → Fields → List ℕ → Lent → Result
read_on a_semaphore x t l = cond (eqb x.kind 1) (answered 0 x.count x.attribute t l) (refused_with 1 t l)
read_on a_mutex x t l = cond (eqb x.kind 2) (cond (ltb 0 x.attribute) (answered 4 0 0 t l) (answered 0 x.owner x.count t l)) (refused_with 1 t l)
read_on an_event x t l = cond (eqb x.kind 3) (answered 0 x.count x.attribute t l) (refused_with 1 t l)

unfoldable pub read_cells : Kind → ℕ → List ℕ → Lent → Result
read_cells k h t l = read_on k (named t h) t l

abbrev pub reset_on : ℕ → Fields → List ℕ → Lent → Result
reset_on h x t l = let r = switch_fields 0 x in cond (eqb r.answer 0) (answered 0 x.count 0 (store t h r.next) l) (refused_with r.answer t l)

unfoldable pub reset_cells : ℕ → List ℕ → Lent → Result
reset_cells h t l = reset_on h (named t h) t l

-- THE CALLS THAT WAKE: what they make of the object that h names, the number handed back, the event cleared at last
abbrev pub signal_fields : Signal → Fields → Changed
signal_fields (post add) x = post_fields add x
signal_fields (unlock asking) x = unlock_fields asking x
signal_fields (kill asking) x = kill_fields asking x
signal_fields set_event x = switch_fields 1 x
signal_fields pulse_event x = switch_fields 1 x

abbrev pub previous_of : Signal → Fields → ℕ
previous_of (post add) x = x.count
previous_of (unlock asking) x = x.count
previous_of (kill asking) x = 0
previous_of set_event x = x.count
previous_of pulse_event x = x.count

abbrev pub cleared_after : Signal → ℕ → Walked → Walked
cleared_after (post add) h v = v
cleared_after (unlock asking) h v = v
cleared_after (kill asking) h v = v
cleared_after set_event h v = v
cleared_after pulse_event h v = walked v.count (store v.tables h (switch_fields 0 (named v.tables h)).next) v.wake

abbrev pub signal_on : Signal → ℕ → Fields → List ℕ → Lent → Result
signal_on how h x t l = let r = signal_fields how x in
    cond (eqb r.answer 0) (woke (previous_of how x) (cleared_after how h (wake_cells (store t h r.next) h l.wake)) l) (refused_with r.answer t l)

-- a short wake list goes first
unfoldable pub signal_cells : Signal → ℕ → List ℕ → Lent → Result
signal_cells how h t l = cond (ltb (length l.wake) wake_length) (refused_with 12 t l) (signal_on how h (named t h) t l)

abbrev pub expire_on : ℕ → ℕ → List ℕ → Lent → Result
expire_on clock time t l = cond (ltb 1 clock) (refused_with 1 t l) (woke 0 (end_cells wait_places clock time (walked 0 t l.wake)) l)

unfoldable pub expire_cells : ℕ → ℕ → List ℕ → Lent → Result
expire_cells clock time t l = cond (ltb (length l.wake) wake_length) (refused_with 12 t l) (expire_on clock time t l)

-- the place of the wait with this ticket; ticket 0 is at the empty places
unfoldable pub ticket_place : List ℕ → ℕ → ℕ
ticket_place t ticket = search_from (λ p. eqb (ticket_at t p) ticket) 0 wait_places

unfoldable pub cancel_cells : ℕ → List ℕ → Lent → Result
cancel_cells ticket t l = let p = ticket_place t ticket in
    cond (eqb ticket 0) (refused_with 1 t l) (cond (ltb p wait_places) (answered 6 0 0 (clear_wait t p) l) (refused_with 1 t l))

-- A WAIT for any (mode 0) or for all (mode 1) of a lent list
unfoldable pub bad_wait : ℕ → List ℕ → ℕ → ℕ → ℕ → ℕ → List ℕ → Bool
bad_wait mode hs asking flags pad alert t = any_of (too_few mode (length hs) ∷ ltb max_listed (length hs) ∷ not (occupied_list t hs) ∷ eqb asking 0 ∷ ltb 1 flags ∷ not (eqb pad 0)
    ∷ not (eqb alert 0 || event_at t alert) ∷ (not (eqb mode 0) && (has hs alert || repeated_list hs)) ∷ [])

-- the cells of a queued wait, at an empty place
unfoldable pub put_header : List ℕ → ℕ → ℕ → ℕ → ℕ → ℕ → ℕ → ℕ → ℕ → List ℕ
put_header t p ticket mode asking clock timeout n alert =
    set (set (set (set (set (set (set t (wait_cell p) ticket) (wait_cell p + 1) mode) (wait_cell p + 2) asking) (wait_cell p + 3) clock) (wait_cell p + 4) timeout) (wait_cell p + 5) n) (wait_cell p + 6) alert

-- the rest of an empty place's list is zero already
unfoldable pub put_list : List ℕ → ℕ → List ℕ → List ℕ
put_list t p hs = fold_below (λ u k. set u (wait_cell p + header_size + k) (get_or hs k 0)) t (length hs)

abbrev pub empty_wait : List ℕ → ℕ
empty_wait t = ticket_place t 0

-- queued under the next ticket, which rises by one
unfoldable pub queue_cells : List ℕ → ℕ → ℕ → List ℕ → ℕ → ℕ → ℕ → ℕ → List ℕ
queue_cells t p mode hs asking flags alert timeout = set (put_list (put_header t p (next_ticket t) mode asking flags timeout (length hs) alert) p hs) 0 (next_ticket t + 1)

-- after a failed attempt: 5, 7, 8 or 11
unfoldable pub later_cells : ℕ → List ℕ → ℕ → ℕ → ℕ → ℕ → ℕ → List ℕ → Lent → Result
later_cells mode hs asking flags alert timeout time t l =
    cond (time_up timeout time) (answered 5 0 0 t l)
    (cond (ltb (empty_wait t) wait_places)
    (cond (leb word64 (next_ticket t + 1)) (refused_with 8 t l) (answered 11 0 (next_ticket t) (queue_cells t (empty_wait t) mode hs asking flags alert timeout) l))
    (refused_with 7 t l))

-- the attempt comes first
abbrev pub act_cells : ℕ → List ℕ → ℕ → ℕ → ℕ → ℕ → ℕ → List ℕ → Lent → Result
act_cells mode hs asking flags alert timeout time t l = let r = try_list t mode asking alert hs in
    cond r.served (answered r.answer r.index 0 r.tables l) (later_cells mode hs asking flags alert timeout time t l)

unfoldable pub wait_on_cells : ℕ → List ℕ → ℕ → ℕ → ℕ → ℕ → ℕ → ℕ → List ℕ → Lent → Result
wait_on_cells mode hs asking flags pad alert timeout time t l =
    cond (bad_wait mode hs asking flags pad alert t) (refused_with 1 t l) (act_cells mode hs asking flags alert timeout time t l)

unfoldable pub snapshot_cells : List ℕ → Lent → Result
snapshot_cells t l = cond (ltb (length l.buffer) snapshot_buffer) (refused_with 12 t l)
    (record { answer = 0; first = length (snapshot_of t); second = 0; woken = 0; tables = t; wake = l.wake; buffer = overwrite (snapshot_of t) l.buffer })

-- EVERY CALL on tables that are valid
abbrev pub on_cells : Operation → List ℕ → Lent → Result
on_cells (create k x y) t l = create_cells (bad_new k x y) (new_fields k x y) t l
on_cells (close h) t l = close_cells h t l
on_cells (reset_event h) t l = reset_cells h t l
on_cells (read k h) t l = read_cells k h t l
on_cells (signal how h) t l = signal_cells how h t l
on_cells (wait mode hs o f p a time now) t l = wait_on_cells (mode_cell mode) hs o f p a time now t l
on_cells (expire clock time) t l = expire_cells clock time t l
on_cells (cancel ticket) t l = cancel_cells ticket t l
on_cells snapshot t l = snapshot_cells t l

-- and on any cells: corrupt tables first
abbrev pub guarded : Lent → List ℕ → Result → Result
guarded l t r = cond (valid_cells t) r (refused_with 9 t l)

unfoldable pub call_cells : Call → List ℕ → Result
call_cells c t = guarded c.lent t (on_cells c.operation t c.lent)

-- MAKING looks at the length alone
unfoldable pub made_cells : List ℕ → List ℕ
made_cells t = set (fold_below (λ u i. set u i 0) t table_length) 0 1

unfoldable pub make_cells : List ℕ → Result
make_cells t = cond (eqb (length t) table_length) (answered 0 0 0 (made_cells t) nothing_lent) (refused_with 9 t nothing_lent)
