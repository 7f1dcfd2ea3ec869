-- P1's text read back, and refused texts with their offsets, by computing.
use mathlib.Core.Path.{◌≡◌, refl}
use mathlib.Core.Bool.{true, false}
use mathlib.Core.List.{[], ◌∷◌, ◌++◌, map}
use Prim.Native.Nat.{◌-◌}
use Prim.Native.String.{String}
use lib.ListN.{replicate}
use Rattle.model.specs.Sizes.{object_places, wait_places, never}
use Rattle.model.specs.Basics.{all_of, has_repeat, member, joined}
use Rattle.model.specs.Objects.{empty, semaphore, event}
use Rattle.model.specs.Waits.{all, free, waiting, State, oldest, lowest_signaled, all_signaled, look, attempt}
use Rattle.model.specs.Calls.{all_occupied}
use Rattle.model.specs.Snapshot.{ascii, digits_up_to, line, object_text, objects_text, object_count, wait_text, queue_from, snapshot_body, byte_sum, snapshot_text}
use Rattle.model.specs.Layout.{same_cells, distinct_tickets}
use Rattle.model.specs.Reading.{◌>>=◌, give, times, after, leading, number_line, word_line, read_values, read_object, read_wait, read_snapshot}
use Rattle.model.specs.Restore.{returned, accepted, refused, judged, restored}

abbrev p1 : State
p1 = record {
  objects = semaphore 1 2 ∷ event false true ∷ replicate (object_places - 2) empty;
  waits = waiting record { ticket = 1; mode = all; owner = 7; clock = 0; timeout = never; alert = 0; list = 1 ∷ 2 ∷ [] } ∷ replicate (wait_places - 1) free;
  next = 2;
}

abbrev p1_objects : String
p1_objects = "next=2\nobjects=2\nhandle=1\nkind=sem\ncount=1\nmax=2\nhandle=2\nkind=event\nsignaled=0\nmanual=1\n"

abbrev p1_waits : String
p1_waits = "waits=1\nwait=1\nmode=all\nowner=7\nclock=mono\ntimeout=18446744073709551615\nalert=0\nn=2\nobj=1\nobj=2\n"

-- a wait for any of an event that is signaled, with its right sum
abbrev served : String
served = "next=2\nobjects=1\nhandle=1\nkind=event\nsignaled=1\nmanual=1\nwaits=1\nwait=1\nmode=any\nowner=7\nclock=mono\ntimeout=18446744073709551615\nalert=0\nn=1\nobj=1\nsum=11909\n"

pub example_restored : restored (ascii p1_objects ++ (ascii p1_waits ++ ascii "sum=15010\n")) ≡ accepted p1
unfolding ◌>>=◌ give times after leading number_line word_line read_values read_object read_wait read_snapshot returned judged restored all_of oldest lowest_signaled all_signaled look attempt all_occupied has_repeat member joined distinct_tickets same_cells
    digits_up_to line object_text objects_text object_count wait_text queue_from snapshot_body byte_sum snapshot_text
example_restored = refl

-- a text that ends where a line is due; bytes after the sum; a wrong sum; no line feed; a leading zero; a number past its range;
-- a wrong key; one object more than counted; nothing; a wait that could be served
pub examples_refused : map restored (
    (ascii p1_objects) ∷ (ascii p1_objects ++ (ascii p1_waits ++ ascii "sum=15010\n\n")) ∷ (ascii p1_objects ++ (ascii p1_waits ++ ascii "sum=15011\n"))
    ∷ (ascii p1_objects ++ (ascii p1_waits ++ ascii "sum=15010")) ∷ ascii "next=02\n" ∷ ascii "next=2\nobjects=513\n" ∷ ascii "next=2\nobjects=0\nwait=0\n"
    ∷ ascii "next=18446744073709551616\n" ∷ ascii "next=1\nobjects=1\nhandle=1\nkind=sem\ncount=1\nmax=2\nhandle=1\n" ∷ [] ∷ ascii served ∷ [])
    ≡ refused 89 ∷ refused 0 ∷ refused 0 ∷ refused 185 ∷ refused 0 ∷ refused 7 ∷ refused 17 ∷ refused 0 ∷ refused 49 ∷ refused 0 ∷ refused 0 ∷ []
unfolding ◌>>=◌ give times after leading number_line word_line read_values read_object read_wait read_snapshot returned judged restored all_of oldest lowest_signaled all_signaled look attempt all_occupied has_repeat member joined distinct_tickets same_cells
    digits_up_to line object_text objects_text object_count wait_text queue_from snapshot_body byte_sum snapshot_text
examples_refused = refl

-- 4/13, texts of one semaphore with count 0, both with their right sum: maximum 1 is accepted; maximum 0 is in its key's range,
-- and refused with offset 0
abbrev of_maximum_1 : State
of_maximum_1 = record { objects = semaphore 0 1 ∷ replicate (object_places - 1) empty; waits = replicate wait_places free; next = 1 }

pub examples_maximum : (restored (ascii "next=1\nobjects=1\nhandle=1\nkind=sem\ncount=0\nmax=1\nwaits=0\nsum=4780\n") ≡ accepted of_maximum_1)
    × (restored (ascii "next=1\nobjects=1\nhandle=1\nkind=sem\ncount=0\nmax=0\nwaits=0\nsum=4779\n") ≡ refused 0)
unfolding ◌>>=◌ give times after leading number_line word_line read_values read_object read_wait read_snapshot returned judged restored all_of oldest lowest_signaled all_signaled look attempt all_occupied has_repeat member joined distinct_tickets same_cells
    digits_up_to line object_text objects_text object_count wait_text queue_from snapshot_body byte_sum snapshot_text
examples_maximum = (refl, refl)
