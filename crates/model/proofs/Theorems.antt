-- The theorems. `table_step t c` is the library's outcome of call c on the cells t, `reference_step` the reference's (01:
-- the fresh reckoning); definitions are in specs/. This file holds nothing else; the arguments are in the files beside.
use mathlib.Core.Path.{◌≡◌, ap}
use mathlib.Core.Bool.{true, false, not, cond}
use mathlib.Core.List.{List, [], ◌∷◌, ◌++◌, map}
use mathlib.Core.Option.{none, some}
use mathlib.Core.Logic.{◌⊎◌, ◌↔◌}
use Prim.Native.Nat.{ℕ, suc, ◌-◌, ◌≤◌, ◌<◌}
use Prim.Native.String.{String}
use lib.ListN.{length, get_or, set, take}
use lib.Dec.{eqb}
use Rattle.model.specs.Sizes.{object_places, tickets_end, never, snapshot_buffer, longest_snapshot}
use Rattle.model.specs.Basics.{corrupt, any_of, all_of, member, has_repeat, All, overwrite}
use Rattle.model.specs.Objects.{Object, empty, semaphore, occupied, signaled, cleared}
use Rattle.model.specs.Waits.{Mode, any, all, Wait, free, waiting, State, initial, object_at, put_at, attempt}
use Rattle.model.specs.Waits.{servable, wake_by_search}
use Rattle.model.specs.Snapshot.{line, snapshot_text}
use Rattle.model.specs.Calls.{wait, cancel, Lent, nothing_lent, Call, asks, refusal, wait_faults, time_up, new_wait}
use Rattle.model.specs.Calls.{Kind, a_semaphore, create, new_object, post, pulse_event, signal, waits_full, change}
use Rattle.model.specs.Calls.{WithinWidths}
use Rattle.model.specs.Layout.{table_length, encode, view, valid_state, valid_tables}
use Rattle.model.specs.ValidCells.{ValidCells}
use Rattle.model.specs.Steps.{Outcome, unaltered, conditions, first_refusal, records, reference_step, on_tables}
use Rattle.model.specs.Steps.{as_read, table_step, seen, run, make_tables}
use Rattle.model.specs.Notions.{refusal_numbers, FirstIs, ◌is_in◌, Quiet, taken_by, touched, Rising, Served, Ended}
use Rattle.model.specs.Notions.{OneByOne, AllOrNone, LongEnough, wrong_object}
use Rattle.model.specs.Reading.{good, bad, by_read, number_line, Lines, read_snapshot}
use Rattle.model.specs.Restore.{shown, quiet, accepted, refused, restored, by_restored, unread, restore_tables}
use Rattle.model.specs.Restore.{placed, SameButPlaces, Entry, WithinEntry, table_entry, reference_entry}
use Rattle.model.specs.RestoreTests.{in_order}
use Rattle.model.specs.Restore.{reply}
use Rattle.model.proofs.AcceptanceExamples.{reached, cancelled_late, cancelled_early}
use Rattle.model.proofs.Alike.{tables_alike, tables_run_alike, tables_restored, tables_reached}
use Rattle.model.proofs.History.{initial_settled}
use Rattle.model.proofs.Literal.{test_lines, lines_test}
use Rattle.model.proofs.Reports.{rising_once}
use Rattle.model.proofs.Sleeps.{attempt_none}
use Rattle.model.proofs.Semaphores.{tables_semaphore, tables_post}
use Rattle.model.proofs.SnapshotLength.{snapshot_longest, snapshot_fits, longest, longest_length, longest_valid}
use Rattle.model.proofs.Tables.{tables_refuse, tables_unknown, search_ends, tables_low, tables_refused}
use Rattle.model.proofs.Tables.{tables_ended, tables_exactly, wait_queued}
use Rattle.model.proofs.Tables.{tables_objects, tables_stays, tables_free, tables_room, tables_wake, tables_left}
use Rattle.model.proofs.Tables.{tables_pulse, tables_rise, tables_spend, tables_told, tables_all_now}
use Rattle.model.proofs.Tables.{tables_creates, tables_cancels, tables_sleeps, settled_run}
use Rattle.model.proofs.Tables.{settled_read, run_quiet}
use Rattle.model.proofs.Tables.{reference_uncorrupted, run_uncorrupted, make_either}
use Rattle.model.proofs.Validity.{test_valid, valid_test}
use Rattle.model.proofs.Placed.{placed_same, same_text}
use Rattle.model.proofs.ReadExactly.{line_good, line_bad}
use Rattle.model.proofs.Accepting.{accepted_exactly, accepted_is, accepted_settled, text_same, by_tests}
use Rattle.model.proofs.Accepting.{bad_offset, else_zero, restore_either, settled_rows}
use Rattle.model.proofs.Damage.{changed_refused, cut_refused}

-- 0. DEMAND 1. For any cells and any call the answer is one of 0 to 12; at 1, 2, 3, 7, 8, 9, 10 and 12 every cell of
-- the tables and of what is lent is as before, there is no report, and all other numbers are 0; at 5 and 6 every object
-- has the values that it had.
pub demand_1 : (t : List ℕ) (c : Call) → ((table_step t c).answer ≤ 12)
    × (member (table_step t c).answer refusal_numbers ≡ true
    → table_step t c ≡ unaltered (table_step t c).answer c.lent t)
    × (member (table_step t c).answer (5 ∷ 6 ∷ []) ≡ true
    → (view (table_step t c).held).objects ≡ (view t).objects)
demand_1 t c = (tables_low t c, tables_refused t c, tables_ended t c)

-- "Damaged tables, a handle past the end, the wrong kind of object, a wake list too short: each is refused by its
-- stated number": damaged tables with 9, whatever else is wrong; then what is lent and too short with 12; then a handle
-- that names nothing, or an object of another kind than the call is for, with 1.
pub refused_by_number : (t : List ℕ) (c : Call) → (valid_tables t ≡ false → (table_step t c).answer ≡ 9)
    × (valid_tables t ≡ true → (LongEnough c → ⊥) → (table_step t c).answer ≡ 12)
    × (valid_tables t ≡ true → LongEnough c → wrong_object c.operation (view t).objects ≡ true
    → (table_step t c).answer ≡ 1)
refused_by_number t c = tables_refuse t c

-- Past the end, and 0, names nothing, whatever the cells.
pub past_the_end : (t : List ℕ) (h : ℕ) → (h ≡ 0) ⊎ (object_places < h) → object_at (view t).objects h ≡ empty
past_the_end t h l = tables_unknown t h l

-- 1. DEMAND 3. For every list of calls on newly made tables, refused ones included, every outcome (answer, numbers,
-- reports in order, every cell of what is lent, every value held, place by place) equals the reference's. The only
-- hypothesis is that each number is within its parameter's width.
pub demand_3 : (cs : List Call) → All WithinWidths cs
    → run table_step (encode initial) cs ≡ map on_tables (run reference_step initial cs)
demand_3 cs fit = settled_run initial cs fit initial_settled

-- 1a. The same by reading: the tables after each call, "being read by their layout in docs/", show the state that the
-- reference holds, and all else is the reference's.
pub demand_3_read : (cs : List Call) → All WithinWidths cs
    → map as_read (run table_step (encode initial) cs) ≡ run reference_step initial cs
demand_3_read cs fit = settled_read initial cs fit initial_settled

-- 1b. So it does from the tables of any valid state in which no queued wait could be served.
pub demand_3_from : (s : State) → valid_state s ≡ true → Quiet s → (cs : List Call) → All WithinWidths cs
    → run table_step (encode s) cs ≡ map on_tables (run reference_step s cs)
demand_3_from s v q cs fit = settled_run s cs fit (record { valid = test_valid s v; quiet = q })

-- 1c. Making, on tables of the right length and whatever their cells, gives newly made tables and answer 0; on others
-- it is 9 and nothing altered.
pub making : (t : List ℕ)
    → (length t ≡ table_length → make_tables t ≡ unaltered 0 nothing_lent (encode initial))
    × ((length t ≡ table_length → ⊥) → make_tables t ≡ unaltered 9 nothing_lent t)
making t = make_either t

-- A list of calls with makings and readings in it is a row of histories: each making and each accepted reading begins
-- one anew, a refused reading is a call that changes nothing, and at every entry all is as with the reference.
pub rows_of_histories : (es : List Entry) → All WithinEntry es
    → run table_entry (encode initial) es ≡ map on_tables (run reference_entry initial es)
rows_of_histories es fit = settled_rows initial es fit initial_settled

-- 1d. So what a host sees, call by call (`seen`, in which every public contract is stated), is what it would see of the
-- reference.
pub demand_3_seen : (cs : List Call) → All WithinWidths cs
    → map seen (run table_step (encode initial) cs) ≡ map seen (map on_tables (run reference_step initial cs))
demand_3_seen cs fit = ap (λ (os : List (Outcome (List ℕ))). map seen os) (demand_3 cs fit)

-- 1e. The reference "searches again until none can": from any valid state its search leaves no wait that could be
-- served.
pub searches_until_none : (s : State) → valid_state s ≡ true → Quiet (wake_by_search [] s).state
searches_until_none s v = search_ends s (test_valid s v)

-- 2. After every call of a history no queued wait could be served.
pub always_quiet : (cs : List Call) → All WithinWidths cs
    → All (λ o. Quiet (view o.held)) (run table_step (encode initial) cs)
always_quiet cs fit = run_quiet initial cs fit initial_settled

-- 3. THE FRAME, for any cells. An object that the call neither makes nor names nor takes, and that no wait reported
-- served took, keeps all its values.
pub frame_objects : (t : List ℕ) (c : Call) → WithinWidths c → (h : ℕ)
    → member h (touched c.operation (table_step t c).answer (table_step t c).first) ≡ false
    → All (λ r. (w : Wait) → w is_in (view t).waits → w.ticket ≡ r.ticket → (r.answer ≡ 5 → ⊥)
    → member h (taken_by w r.index) ≡ false) (table_step t c).reports
    → object_at (view (table_step t c).held).objects h ≡ object_at (view t).objects h
frame_objects t c fit h = tables_objects t c fit h

-- A queued wait that is neither reported nor cancelled stays in its place with all its values.
pub frame_waits : (t : List ℕ) (c : Call) → WithinWidths c → (p : ℕ) (w : Wait)
    → get_or (view t).waits p free ≡ waiting w → (c.operation ≡ cancel w.ticket → ⊥)
    → All (λ r. r.ticket ≡ w.ticket → ⊥) (table_step t c).reports
    → get_or (view (table_step t c).held).waits p free ≡ waiting w
frame_waits t c fit p w = tables_stays t c fit p w

-- A free wait place stays free, unless the call answers 11 and no lower place was free. (A free object place is one of
-- the objects above.)
pub frame_free : (t : List ℕ) (c : Call) → WithinWidths c → (p : ℕ) → get_or (view t).waits p free ≡ free
    → (get_or (view (table_step t c).held).waits p free ≡ free)
    ⊎ (((table_step t c).answer ≡ 11) × ((j : ℕ) → j < p → get_or (view t).waits j free ≡ free → ⊥))
frame_free t c fit p = tables_free t c fit p

-- 4. Answer 9 never occurs in a history, and the reference never gives it.
pub never_9 : (cs : List Call) → All WithinWidths cs
    → All (λ o. o.answer ≡ 9 → ⊥) (run table_step (encode initial) cs)
never_9 cs fit = run_uncorrupted initial cs fit initial_settled

pub reference_never_9 : (s : State) (c : Call) → (reference_step s c).answer ≡ 9 → ⊥
reference_never_9 s c = reference_uncorrupted s c

-- 5. DEMAND 2's "exactly", for any cells. A refusal's number is answered exactly if its condition holds and none
-- earlier in the order does: corrupt tables, then a list too short, then the conditions of `refusals`.
pub exactly_refused : (t : List ℕ) (c : Call) (n : ℕ) → member n refusal_numbers ≡ true
    → ((table_step t c).answer ≡ n) ↔ FirstIs n (refusal corrupt (not (valid_tables t)) ∷ conditions c (view t))
exactly_refused t c n k = tables_exactly t c n k

-- Tables are corrupt (01: damaged) exactly if a line of 01's list "Sound tables" is broken.
pub valid_exactly : (t : List ℕ) → (valid_tables t ≡ true) ↔ ValidCells t
valid_exactly t = (test_lines t, lines_test t)

-- "A proper wait is queued exactly when it can't be served now, by list or alert, its time isn't up, and place and
-- ticket are left."
pub exactly_queued : (t : List ℕ) → valid_tables t ≡ true
    → (l : Lent) (mode : Mode) (hs : List ℕ) (o f p a timeout time : ℕ)
    → any_of (wait_faults mode hs o f p a (view t).objects) ≡ false
    → ((table_step t (asks (wait mode hs o f p a timeout time) l)).answer ≡ 11)
    ↔ ((servable (view t).objects (new_wait mode hs o f a timeout (view t).next) ≡ false)
    × (time_up timeout time ≡ false) × (waits_full (view t).waits ≡ false) × ((view t).next ≡ tickets_end → ⊥))
unfolding table_step
exactly_queued t v l mode hs o f p a timeout time ok = rw v (wait_queued mode hs o f p a timeout time l (view t) ok)

-- "A queued wait takes the next ticket, which then rises by one; nothing else spends one." At answer 11 the next ticket
-- rises by one, and at every other answer it stays.
pub only_queuing_spends : (t : List ℕ) (c : Call) → WithinWidths c
    → (view (table_step t c).held).next
    ≡ cond (eqb (table_step t c).answer 11) (suc (view t).next) (view t).next
only_queuing_spends t c fit = tables_spend t c fit

-- "Creating takes the lowest empty object place": a create answered 0 hands back the handle of a place that was empty
-- and below which none was, and that place has the new object now.
pub creates_lowest : (t : List ℕ) (k : Kind) (x y : ℕ) (l : Lent) → let c = asks (create k x y) l in WithinWidths c
    → (table_step t c).answer ≡ 0 → let h = (table_step t c).first in
    (object_at (view t).objects h ≡ empty)
    × ((j : ℕ) → 0 < j → j < h → occupied (object_at (view t).objects j) ≡ true)
    × (object_at (view (table_step t c).held).objects h ≡ new_object k x y)
creates_lowest t k x y l fit = tables_creates t k x y l fit

-- "6 .. the wait is gone": after a cancel answered 6 no queued wait has that ticket.
pub cancelled_gone : (t : List ℕ) (k : ℕ) (l : Lent) → let c = asks (cancel k) l in WithinWidths c
    → (table_step t c).answer ≡ 6 → (v : Wait) → v is_in (view (table_step t c).held).waits → v.ticket ≡ k → ⊥
cancelled_gone t k l fit = tables_cancels t k l fit

-- 6. THE RECORDS ARE THE SERVED OR ENDED WAITS, for any cells. Each report's ticket is that of a wait queued before the
-- call, and of no wait queued after it.
pub records_are_waits : (t : List ℕ) (c : Call) → WithinWidths c
    → All (λ r. ((w : Wait) × (w is_in (view t).waits) × (w.ticket ≡ r.ticket))
    × ((v : Wait) → v is_in (view (table_step t c).held).waits → v.ticket ≡ r.ticket → ⊥))
    (table_step t c).reports
records_are_waits t c fit = tables_left t c fit

-- Their tickets rise, and no ticket comes twice.
pub records_rise : (t : List ℕ) (c : Call) → Rising 0 (table_step t c).reports
    × (has_repeat (map (λ r. r.ticket) (table_step t c).reports) ≡ false)
records_rise t c = (tables_rise t c, rising_once 0 (table_step t c).reports (tables_rise t c))

-- They stand at the front of the lent wake list, where there is room for all, and the rest is unaltered.
pub records_written : (t : List ℕ) (c : Call)
    → ((table_step t c).lent.wake ≡ overwrite (records (table_step t c).reports) c.lent.wake)
    × (length (records (table_step t c).reports) ≤ length c.lent.wake)
records_written t c = (tables_wake t c, tables_room t c)

-- What happens to the objects in a call that is not refused: the bare change; then the reported waits one by one, each
-- served by its own attempt on the objects as they then stand, or ended with nothing taken; then a pulse's clearing.
-- So a report has answer 0 or 4 only if that wait's attempt succeeded.
pub records_were_served : (t : List ℕ) → valid_tables t ≡ true → (c : Call) → WithinWidths c
    → first_refusal (conditions c (view t)) ≡ none → let d = change c.operation (view t) in
    (last : List Object)
    × OneByOne (λ w r os next. Served w r os next ⊎ Ended w r os next) (view t).waits
    (table_step t c).reports d.state.objects last
    × ((view (table_step t c).held).objects ≡ put_at last d.clears (cleared (object_at last d.clears)))
records_were_served t v c fit a = (tables_told t v c fit a).0

-- "A pulse clears its event after that search": after a pulse answered 0 its event is signaled for nobody.
pub pulse_clears : (t : List ℕ) (h : ℕ) (l : Lent) → let c = asks (signal pulse_event h) l in WithinWidths c
    → (table_step t c).answer ≡ 0 → (o : ℕ)
    → signaled o (object_at (view (table_step t c).held).objects h) ≡ false
pulse_clears t h l fit = tables_pulse t h l fit

-- 7. "A WAIT FOR ALL TAKES EVERY OBJECT OR NONE." A fresh one, on any cells and with any arguments:
pub all_or_none_now : (t : List ℕ) (hs : List ℕ) (o f p a timeout time : ℕ) (l : Lent)
    → let c = asks (wait all hs o f p a timeout time) l in WithinWidths c
    → AllOrNone (new_wait all hs o f a timeout 0) (table_step t c).answer (table_step t c).first
    (view t).objects (view (table_step t c).held).objects
all_or_none_now t hs o f p a timeout time l fit = tables_all_now t hs o f p a timeout time l fit

-- and every queued one that a call reports, the objects before and after being those of its turn among the reports:
pub all_or_none_queued : (t : List ℕ) → valid_tables t ≡ true → (c : Call) → WithinWidths c
    → first_refusal (conditions c (view t)) ≡ none → let d = change c.operation (view t) in
    (last : List Object)
    × OneByOne (λ w r os next. w.mode ≡ all → AllOrNone w r.answer r.index os next) (view t).waits
    (table_step t c).reports d.state.objects last
    × ((view (table_step t c).held).objects ≡ put_at last d.clears (cleared (object_at last d.clears)))
all_or_none_queued t v c fit a = (tables_told t v c fit a).1

-- 8. THE SNAPSHOT. No snapshot of a valid state is longer than 54,549 bytes, so every one fits the least buffer; one
-- has that length.
pub longest_snapshot_lem : (s : State) → valid_state s ≡ true
    → (length (snapshot_text s) ≤ longest_snapshot) × (length (snapshot_text s) ≤ snapshot_buffer)
longest_snapshot_lem s v = (snapshot_longest s (test_valid s v), snapshot_fits s (test_valid s v))

pub longest_reached : (valid_state longest ≡ true) × (length (snapshot_text longest) ≡ longest_snapshot)
longest_reached = (valid_test longest longest_valid, longest_length)

-- 9. A WAIT FOR ANY OF NO OBJECTS (1/13): "it can be served by its alert, end by time, or be cancelled." Its attempt is
-- the alert's, with index 0 (the list's length); so without alert and with timeout never, any call on any cells but the
-- cancel of its ticket leaves it in its place with all its values.
pub sleep_by_alert : (os : List Object) (w : Wait) → w.mode ≡ any → w.list ≡ []
    → attempt os w ≡ cond (signaled w.owner (object_at os w.alert))
    (some record { handles = w.alert ∷ []; index = 0 }) none
sleep_by_alert os w m l = attempt_none os w m l

pub sleep_only_cancelled : (t : List ℕ) (c : Call) → WithinWidths c → (p : ℕ) (w : Wait)
    → get_or (view t).waits p free ≡ waiting w → w.mode ≡ any → w.list ≡ [] → w.alert ≡ 0 → w.timeout ≡ never
    → (c.operation ≡ cancel w.ticket → ⊥) → get_or (view (table_step t c).held).waits p free ≡ waiting w
sleep_only_cancelled t c fit p w = tables_sleeps t c fit p w

-- 10. READING A SNAPSHOT BACK (3/13). "Of the lent tables only the lengths matter, else 9"; an accepted text gives
-- answer 0 and the tables of its state, whatever their cells were; a refused one 13, its offset, and tables unaltered.
pub reading : (t text : List ℕ)
    → (length t ≡ table_length → restore_tables t text
    ≡ by_restored (restored text) (λ s. unaltered 0 nothing_lent (encode s)) (λ offset. unread offset t))
    × ((length t ≡ table_length → ⊥) → restore_tables t text ≡ unaltered 9 nothing_lent t)
reading t text = restore_either t text

-- "The reader accepts exactly the texts that the writer can produce from sound tables in which no queued wait could be
-- served"; what it makes is that state, objects in their places and waits in the lowest places by ticket.
pub accepts_exactly : (text : List ℕ) (r : State) → (restored text ≡ accepted r)
    ↔ ((s : State) × (valid_state s ≡ true) × Quiet s × (snapshot_text s ≡ text) × (r ≡ placed s))
accepts_exactly text r = accepted_exactly text r

-- So placed, a state differs from what it was at most in which wait places its waits fill.
pub placed_alike : (s : State) → valid_state s ≡ true → SameButPlaces s (placed s)
placed_alike s v = placed_same s (test_valid s v)

-- "writing what was read gives the same bytes"
pub written_again : (text : List ℕ) (r : State) → restored text ≡ accepted r → snapshot_text r ≡ text
written_again text r e = (accepted_is text r e).writes

-- "Two sound tables give equal text exactly if they differ at most in which wait places their waits fill"
pub equal_text_exactly : (a b : State) → valid_state a ≡ true → valid_state b ≡ true
    → (snapshot_text a ≡ snapshot_text b) ↔ SameButPlaces a b
equal_text_exactly a b v u =
    (text_same a b (test_valid a v) (test_valid b u), same_text a b (test_valid a v) (test_valid b u))

-- The offset. Where a line is not as due, the text is what was read well and the rest from that line on, and the offset
-- is the length of what was read; of any other refused text it is 0.
pub refused_at_line : (text from : List ℕ) → read_snapshot text ≡ bad from
    → (front : List ℕ) × (text ≡ front ++ from) × (restored text ≡ refused (length front))
refused_at_line text from e = bad_offset text from e

pub refused_at_0 : (text : List ℕ) (l : Lines) (rest : List ℕ) (offset : ℕ) → read_snapshot text ≡ good l rest
    → restored text ≡ refused offset → offset ≡ 0
refused_at_0 text l rest offset e r = else_zero text l rest offset e r

-- "A picture with one byte changed must never start a pump": it is refused, whatever stands in the byte's place.
pub one_byte_changed : (s : State) → valid_state s ≡ true → (i b : ℕ) → i < length (snapshot_text s)
    → (get_or (snapshot_text s) i 0 ≡ b → ⊥) → (r : State) → restored (set (snapshot_text s) i b) ≡ accepted r → ⊥
one_byte_changed s v i b l n r e = changed_refused s (test_valid s v) i b l n r e

-- So is a picture that was cut off anywhere.
pub cut_off : (s : State) → valid_state s ≡ true → (n : ℕ) → n < length (snapshot_text s) → (r : State)
    → restored (take n (snapshot_text s)) ≡ accepted r → ⊥
cut_off s v n l r e = cut_refused s (test_valid s v) n l r e

-- A line reads as n exactly if it is the writer's own line of n, and n is in the key's range; else it is bad where it
-- begins.
pub line_exactly : (key : String) (low high : ℕ) → high ≤ never → (text : List ℕ)
    → ((n : ℕ) (rest : List ℕ)
    → (number_line key low high text ≡ good n rest) ↔ ((text ≡ line key n ++ rest) × (low ≤ n) × (n ≤ high)))
    × ((from : List ℕ) → number_line key low high text ≡ bad from → from ≡ text)
line_exactly key low high h text = (line_good key low high h text, λ from e. (line_bad key low high h text from e).0)

-- The same as the tests that code makes: what the lines show is valid and quiet, handles and tickets rise, the sum is
-- right, no bytes are left.
pub restored_by_tests : (text : List ℕ)
    → restored text ≡ by_read (read_snapshot text) (λ from. refused (length text - length from)) (λ l rest.
    cond (all_of (valid_state (shown l) ∷ quiet (shown l) ∷ in_order l rest ∷ [])) (accepted (shown l)) (refused 0))
restored_by_tests text = by_tests text

-- "Demand 3's history may then begin at an accepted picture, and its reckoning with what that text shows, so placed";
-- after every call no queued wait could be served, and answer 9 never occurs. (The frame holds for any cells.)
pub demand_3_from_text : (text : List ℕ) (r : State) → restored text ≡ accepted r
    → (cs : List Call) → All WithinWidths cs → run table_step (encode r) cs ≡ map on_tables (run reference_step r cs)
demand_3_from_text text r e cs fit = settled_run r cs fit (accepted_settled text r e)

pub always_quiet_from_text : (text : List ℕ) (r : State) → restored text ≡ accepted r
    → (cs : List Call) → All WithinWidths cs → All (λ o. Quiet (view o.held)) (run table_step (encode r) cs)
always_quiet_from_text text r e cs fit = run_quiet r cs fit (accepted_settled text r e)

pub never_9_from_text : (text : List ℕ) (r : State) → restored text ≡ accepted r
    → (cs : List Call) → All WithinWidths cs → All (λ o. o.answer ≡ 9 → ⊥) (run table_step (encode r) cs)
never_9_from_text text r e cs fit = run_uncorrupted r cs fit (accepted_settled text r e)

-- 11. A RESTORED BOARD ANSWERS AS ONE THAT NEVER STOPPED (3/13). Tables restored from the snapshot of valid tables in
-- which no wait could be served give the same reply to each call of any list as those that went on: answer, both
-- numbers, reports, every cell of what is lent.
pub restored_replies : (t : List ℕ) → valid_tables t ≡ true → Quiet (view t) → (u : List ℕ) → length u ≡ table_length
    → (cs : List Call) → All WithinWidths cs → let r = restore_tables u (snapshot_text (view t)) in
    (r.answer ≡ 0) × (map reply (run table_step r.held cs) ≡ map reply (run table_step t cs))
restored_replies t v q u l cs fit = tables_restored t v q u l cs fit

-- So do any two valid tables that differ at most in which wait places their waits fill; after a call they are valid
-- and differ at most in that again.
pub same_reply : (t u : List ℕ) → valid_tables t ≡ true → valid_tables u ≡ true → SameButPlaces (view t) (view u)
    → (c : Call) → WithinWidths c → let o = table_step t c in let p = table_step u c in
    (reply o ≡ reply p) × (valid_tables o.held ≡ true) × (valid_tables p.held ≡ true)
    × SameButPlaces (view o.held) (view p.held)
same_reply t u v w s c fit = tables_alike t u v w s c fit

pub same_replies : (t u : List ℕ) → valid_tables t ≡ true → valid_tables u ≡ true → SameButPlaces (view t) (view u)
    → (cs : List Call) → All WithinWidths cs → map reply (run table_step t cs) ≡ map reply (run table_step u cs)
same_replies t u v w s cs fit = tables_run_alike t u v w s cs fit

-- Two histories reach such tables, and their cells differ: a wait is cancelled after the next is queued, or before.
pub places_reached : let t = encode (reached cancelled_late) in let u = encode (reached cancelled_early) in
    (valid_tables t ≡ true) × (valid_tables u ≡ true) × SameButPlaces (view t) (view u) × (t ≡ u → ⊥)
places_reached = tables_reached

-- 12. A SEMAPHORE'S MAXIMUM IS NOT 0 (4/13). "Creating with maximum 0 is EINVAL from now on": on valid tables, where
-- every place is in use too, creating a semaphore is answered 1 exactly if its count exceeds its maximum or that is 0.
pub semaphore_refused : (t : List ℕ) → valid_tables t ≡ true → (count max : ℕ) (l : Lent)
    → ((table_step t (asks (create a_semaphore count max) l)).answer ≡ 1) ↔ ((max < count) ⊎ (max ≡ 0))
semaphore_refused t v count max l = tables_semaphore t v count max l

-- So there are no "semaphores that can never be signaled": on valid tables a post of 1 to one whose count is 0 is
-- answered 0.
pub semaphore_signalable : (t : List ℕ) → valid_tables t ≡ true → (h max : ℕ)
    → object_at (view t).objects h ≡ semaphore 0 max → (l : Lent) → let c = asks (signal (post 1) h) l in
    LongEnough c → (table_step t c).answer ≡ 0
semaphore_signalable t v h max e l = tables_post t v h max e l
