-- Every size and limit, each named once (document 01, "Sizes of the tables").
use Rattle.std.specs.Prelude.{ℕ, ◌*◌, ◌^◌}

-- "128 object places, handles 1 to 128; 0 is never a handle.", and 5/13: "Raise object places and handles to 512 ..;
-- waits and lists stay."
abbrev pub object_places : ℕ
object_places = 512

-- "32 wait places."
abbrev pub wait_places : ℕ
wait_places = 32

-- "1 to 64 handles in a wait's list (64 is NT's own limit ..)", by 1/13 none too for any.
abbrev pub max_listed : ℕ
max_listed = 64

-- "Owner numbers, semaphore counts and recursion counts are 32-bit; times and tickets 64-bit."
abbrev pub word32 : ℕ
word32 = 2 ^ 32

abbrev pub word64 : ℕ
word64 = 2 ^ 64

-- "a mutex .. whose count is below 4,294,967,295 (that ceiling is house)"
abbrev pub mutex_ceiling : ℕ
mutex_ceiling = 4294967295

-- "2^64-1 means never, whatever the time."
abbrev pub never : ℕ
never = 18446744073709551615

-- "Tickets run from 1 to 2^64-2"; "8 tickets spent: next ticket is 2^64-1"
abbrev pub tickets_end : ℕ
tickets_end = 18446744073709551615

-- "12: wake list under 32 records, or picture buffer under 32,768 bytes": a record of three cells for every wait place;
-- 5/13: "The picture buffer becomes 65,536 bytes"
abbrev pub wake_length : ℕ
wake_length = 3 * wait_places

abbrev pub snapshot_buffer : ℕ
snapshot_buffer = 65536

-- 5/13: "the longest picture 54,549 bytes"
abbrev pub longest_snapshot : ℕ
longest_snapshot = 54549
