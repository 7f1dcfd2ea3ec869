-- The snapshot's text in the shape of its writer.
use Rattle.std.specs.Prelude.{ℕ, zero, suc, ◌+◌, ◌%◌, List, [], ◌++◌, cond, length, get_or, eqb, ltb}
use Rattle.model.specs.Sizes.{object_places, wait_places, word32}
use Rattle.model.specs.Basics.{bit}
use Rattle.model.specs.Snapshot.{ascii, line, byte_sum}
use Rattle.cells.specs.Fold.{fold_below}
use Rattle.cells.specs.Objects.{Fields, fields_at}
use Rattle.cells.specs.Waits.{next_ticket, queued_at, ticket_at, mode_at, owner_at, clock_at, timeout_at, alert_at, list_of, next_wait}

-- an object of each kind
abbrev pub semaphore_text : ℕ → Fields → List ℕ
semaphore_text h x = line "handle=" h ++ (ascii "kind=sem\n" ++ (line "count=" x.count ++ line "max=" x.attribute))

abbrev pub mutex_text : ℕ → Fields → List ℕ
mutex_text h x = line "handle=" h ++ (ascii "kind=mutex\n" ++ (line "owner=" x.owner ++ (line "count=" x.count ++ line "abandoned=" x.attribute)))

abbrev pub event_text : ℕ → Fields → List ℕ
event_text h x = line "handle=" h ++ (ascii "kind=event\n" ++ (line "signaled=" x.count ++ line "manual=" x.attribute))

unfoldable pub fields_text : ℕ → Fields → List ℕ
fields_text h x = cond (eqb x.kind 1) (semaphore_text h x) (cond (eqb x.kind 2) (mutex_text h x) (cond (eqb x.kind 3) (event_text h x) []))

-- the objects of the places below n
unfoldable pub objects_text_below : List ℕ → ℕ → List ℕ
objects_text_below t n = fold_below (λ text p. text ++ fields_text (p + 1) (fields_at t p)) [] n

unfoldable pub object_total : List ℕ → ℕ
object_total t = fold_below (λ n p. n + bit (ltb 0 (fields_at t p).kind)) 0 object_places

unfoldable pub wait_total : List ℕ → ℕ
wait_total t = fold_below (λ n p. n + bit (queued_at t p)) 0 wait_places

unfoldable pub list_text_below : List ℕ → ℕ → List ℕ
list_text_below list n = fold_below (λ text k. text ++ line "obj=" (get_or list k 0)) [] n

abbrev pub mode_text_of : ℕ → List ℕ
mode_text_of mode = cond (eqb mode 0) (ascii "mode=any\n") (ascii "mode=all\n")

abbrev pub clock_text_of : ℕ → List ℕ
clock_text_of clock = cond (eqb clock 0) (ascii "clock=mono\n") (ascii "clock=real\n")

-- a wait, by what is read of its place
unfoldable pub wait_lines : ℕ → ℕ → ℕ → ℕ → ℕ → ℕ → List ℕ → List ℕ
wait_lines ticket mode owner clock timeout alert list = line "wait=" ticket ++ (mode_text_of mode ++ (line "owner=" owner ++ (clock_text_of clock ++ (line "timeout=" timeout
    ++ (line "alert=" alert ++ (line "n=" (length list) ++ list_text_below list (length list)))))))

unfoldable pub wait_text_at : List ℕ → ℕ → List ℕ
wait_text_at t p = wait_lines (ticket_at t p) (mode_at t p) (owner_at t p) (clock_at t p) (timeout_at t p) (alert_at t p) (list_of t p)

-- at most n waits above a ticket, lowest first
unfoldable pub waits_text_from : ℕ → List ℕ → ℕ → List ℕ
waits_text_from zero t last = []
waits_text_from (suc n) t last = let p = next_wait t last in let rest = waits_text_from n t (ticket_at t p) in cond (ltb p wait_places) (wait_text_at t p ++ rest) []

unfoldable pub body_of : List ℕ → List ℕ
body_of t = line "next=" (next_ticket t) ++ (line "objects=" (object_total t) ++ (objects_text_below t object_places ++ (line "waits=" (wait_total t) ++ waits_text_from wait_places t 0)))

unfoldable pub snapshot_of : List ℕ → List ℕ
snapshot_of t = body_of t ++ line "sum=" (byte_sum (body_of t) % word32)
