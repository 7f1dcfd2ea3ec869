-- The snapshot (01: the picture) of a state, byte by byte (document 01, "The picture").
use Rattle.std.specs.Prelude.{cond, List, [], ◌∷◌, ◌++◌, ℕ, zero, suc, ◌+◌, ◌/◌, ◌%◌, length, ltb}
use Prim.Native.Char.{code}
use Prim.Native.String.{String, [] as []ˢ, ◌∷◌ as ◌∷ˢ◌}
use Rattle.model.specs.Sizes.{word32}
use Rattle.model.specs.Basics.{maybe, bit, joined}
use Rattle.model.specs.Objects.{Object, empty, semaphore, mutex, event, occupied}
use Rattle.model.specs.Waits.{Mode, any, all, Wait, WaitPlace, State, oldest}

-- the bytes of a text, all of whose characters are ASCII
abbrev pub ascii : String → List ℕ
ascii []ˢ = []
ascii (c ∷ˢ s) = code c ∷ ascii s

-- "decimal with no leading zeros": the digits of n / 10, then the last; no number below 2^64 has more than 20
unfoldable pub digits_up_to : ℕ → ℕ → List ℕ
digits_up_to zero n = (48 + n % 10) ∷ []
digits_up_to (suc k) n = let front = digits_up_to k (n / 10) in cond (ltb n 10) [] front ++ ((48 + n % 10) ∷ [])

-- "Lines `key=value`, line feed after each"
unfoldable pub line : String → ℕ → List ℕ
line key n = ascii key ++ (digits_up_to 19 n ++ (10 ∷ []))

unfoldable pub object_text : ℕ → Object → List ℕ
object_text h empty = []
object_text h (semaphore c m) = line "handle=" h ++ (ascii "kind=sem\n" ++ (line "count=" c ++ line "max=" m))
object_text h (mutex o c a) =
    line "handle=" h ++ (ascii "kind=mutex\n" ++ (line "owner=" o ++ (line "count=" c ++ line "abandoned=" (bit a))))
object_text h (event s m) =
    line "handle=" h ++ (ascii "kind=event\n" ++ (line "signaled=" (bit s) ++ line "manual=" (bit m)))

-- "objects by handle": from handle h on
unfoldable pub objects_text : ℕ → List Object → List ℕ
objects_text h [] = []
objects_text h (x ∷ xs) = object_text h x ++ objects_text (suc h) xs

unfoldable pub object_count : List Object → ℕ
object_count [] = 0
object_count (x ∷ xs) = bit (occupied x) + object_count xs

-- "mode is any or all; clock is mono or real"
abbrev pub mode_text : Mode → List ℕ
mode_text any = ascii "mode=any\n"
mode_text all = ascii "mode=all\n"

abbrev pub clock_text : ℕ → List ℕ
clock_text zero = ascii "clock=mono\n"
clock_text (suc k) = ascii "clock=real\n"

unfoldable pub wait_text : Wait → List ℕ
wait_text w = line "wait=" w.ticket ++ (mode_text w.mode ++ (line "owner=" w.owner ++ (clock_text w.clock
    ++ (line "timeout=" w.timeout ++ (line "alert=" w.alert ++ (line "n=" (length w.list)
    ++ joined (line "obj=") w.list))))))

-- "waits by ticket": the queued waits above a ticket, lowest first, at most n of them
unfoldable pub queue_from : ℕ → ℕ → List WaitPlace → List Wait
queue_from zero last ws = []
queue_from (suc n) last ws = maybe (oldest (λ w. ltb last w.ticket) ws) [] (λ w. w ∷ queue_from n w.ticket ws)

-- every line but the sum
unfoldable pub snapshot_body : State → List ℕ
snapshot_body s = let q = queue_from (length s.waits) 0 s.waits in
    line "next=" s.next ++ (line "objects=" (object_count s.objects) ++ (objects_text 1 s.objects
    ++ (line "waits=" (length q) ++ joined wait_text q)))

-- 3/13: "a last line `sum=` to the picture: the wrapping 32-bit sum of all bytes before that line"
unfoldable pub byte_sum : List ℕ → ℕ
byte_sum [] = 0
byte_sum (b ∷ bs) = b + byte_sum bs

unfoldable pub snapshot_text : State → List ℕ
snapshot_text s = snapshot_body s ++ line "sum=" (byte_sum (snapshot_body s) % word32)
