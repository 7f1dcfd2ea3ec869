-- The text of a valid state is read back line by line, and shows that state with its waits in the lowest places by ticket.
use mathlib.Core.Path.{◌≡◌, refl, ap, ◌∙◌}
use mathlib.Core.Bool.{true, false, ◌||◌, cond}
use mathlib.Core.List.{List, [], ◌∷◌, ◌++◌, append-nil, append_assoc}
use Prim.Native.Nat.{ℕ, zero, suc, ◌+◌, ◌%◌, ◌≤◌, ◌<◌}
use native.Mathlib.Omega.{arith}
use native.Mathlib.Nat.{mod-lt}
use lib.ListN.{length, get_or, set, replicate}
use lib.Dec.{eqb, ltb, lit≤, lit<}
use borrow.Author.Tests.{ltb-true, ltb-false, leb-true, eqb-true, not-true}
use Rattle.model.specs.Sizes.{object_places, max_listed, word32, word64}
use Rattle.model.specs.Basics.{joined, All}
use Rattle.model.specs.Objects.{Object, empty, semaphore, mutex, event, occupied, is_event}
use Rattle.model.specs.Waits.{Mode, any, all, Wait, WaitPlace, State, object_at, oldest}
use Rattle.model.specs.Calls.{all_occupied}
use Rattle.model.specs.Snapshot.{ascii, line, object_text, objects_text, object_count, mode_text, clock_text, wait_text, queue_from, snapshot_body, byte_sum, snapshot_text}
use Rattle.model.specs.Layout.{valid_object, valid_wait}
use Rattle.model.specs.Notions.{◌is_in◌}
use Rattle.model.proofs.Logic.{by_bool, by_option, clash, and_split, passed}
use Rattle.model.proofs.Queue.{oldest_some}
use Rattle.model.proofs.Valid.{Valid, event_occupied}
use Rattle.model.proofs.Valid.{in_places}
use Rattle.model.specs.Reading.{good, after, number_line, word_line, number32_line, read_values, read_object, read_wait, Lines, read_snapshot}
use Rattle.model.specs.Restore.{returned, shown, queue, placed}
use Rattle.model.specs.RestoreTests.{entry_text}
use Rattle.model.proofs.ReadLines.{Reads, reads_then, reads_last, reads_times, reads_number, reads_flag}

-- OBJECTS
pub reads_32 : (key : _) (n : ℕ) → n < word32 → Reads (number32_line key) (line key n) n
reads_32 key n h = reads_number key n (omega arith) (omega arith) (lit≤ tt)

reads_object : (h : ℕ) (x : Object) → 1 ≤ h → h ≤ object_places → occupied x ≡ true → valid_object x ≡ true → Reads read_object (object_text h x) (h, x)
unfolding read_object read_values object_text word_line after
reads_object h empty l u o v = clash o refl
reads_object h (semaphore c m) l u o v = let (t0, (t1, t2)) = passed _ v in let p = leb-true c m t0 in let q = ltb-true m word32 t1 in
    reads_then _ (reads_number "handle=" h l u (lit≤ tt)) (reads_then {x = ascii "kind=sem\n"} _ (record { reads = λ rest. refl }) (reads_last (λ x. (h, x))
    (reads_then _ (reads_32 "count=" c (omega arith)) (reads_last (λ m. semaphore c m) (reads_32 "max=" m q)))))
reads_object h (mutex o c a) l u i v = let (t0, (t1, t2)) = passed _ v in
    reads_then _ (reads_number "handle=" h l u (lit≤ tt)) (reads_then {x = ascii "kind=mutex\n"} _ (record { reads = λ rest. refl }) (reads_last (λ x. (h, x))
    (reads_then _ (reads_32 "owner=" o (ltb-true _ _ t0)) (reads_then _ (reads_32 "count=" c (ltb-true _ _ t1)) (reads_last (λ a. mutex o c a) (reads_flag "abandoned=" a))))))
reads_object h (event s m) l u o v =
    reads_then _ (reads_number "handle=" h l u (lit≤ tt)) (reads_then {x = ascii "kind=event\n"} _ (record { reads = λ rest. refl }) (reads_last (λ x. (h, x))
    (reads_then _ (reads_flag "signaled=" s) (reads_last (λ m. event s m) (reads_flag "manual=" m)))))

-- the occupied places with their handles, from handle h on
unfoldable pub listed : ℕ → List Object → List (ℕ × Object)
listed h [] = []
listed h (x ∷ xs) = cond (occupied x) ((h, x) ∷ listed (suc h) xs) (listed (suc h) xs)

empty_text : (h : ℕ) (x : Object) → occupied x ≡ false → object_text h x ≡ []
unfolding object_text
empty_text h empty e = refl
empty_text h (semaphore c m) e = clash refl e
empty_text h (mutex o c a) e = clash refl e
empty_text h (event s m) e = clash refl e

empty_is : (x : Object) → occupied x ≡ false → x ≡ empty
empty_is empty e = refl
empty_is (semaphore c m) e = clash refl e
empty_is (mutex o c a) e = clash refl e
empty_is (event s m) e = clash refl e

pub listed_text : (h : ℕ) (xs : List Object) → objects_text h xs ≡ joined entry_text (listed h xs)
unfolding objects_text joined listed
listed_text h [] = refl
listed_text h (x ∷ xs) = by_bool (occupied x) (λ t. rw t (ap (λ (l : List ℕ). object_text h x ++ l) (listed_text (suc h) xs))) (λ f. rw (f, empty_text h x f) (listed_text (suc h) xs))

pub listed_count : (h : ℕ) (xs : List Object) → object_count xs ≡ length (listed h xs)
unfolding object_count listed
listed_count h [] = refl
listed_count h (x ∷ xs) = let ih = listed_count (suc h) xs in by_bool (occupied x) (λ t. rw t (omega arith)) (λ f. rw f (omega arith))

listed_most : (h : ℕ) (xs : List Object) → length (listed h xs) ≤ length xs
unfolding listed
listed_most h [] = omega arith
listed_most h (x ∷ xs) = let ih = listed_most (suc h) xs in by_bool (occupied x) (λ t. rw t (omega arith)) (λ f. rw f (omega arith))

reads_objects : (h : ℕ) (xs : List Object) → 1 ≤ h → h + length xs ≤ suc object_places → ((i : ℕ) → valid_object (get_or xs i empty) ≡ true) → All (λ p. Reads read_object (entry_text p) p) (listed h xs)
unfolding listed
reads_objects h [] l u v = tt
reads_objects h (x ∷ xs) l u v = let ih = reads_objects (suc h) xs (omega arith) (omega arith) (λ i. v (suc i)) in
    by_bool (occupied x) (λ t. rw t (reads_object h x l (omega arith) t (v 0), ih)) (λ f. rw f ih)

-- put back, they stand in their places
set_front : (front : List Object) (e x : Object) (rest : List Object) → set (front ++ (e ∷ rest)) (length front) x ≡ (front ++ (x ∷ [])) ++ rest
set_front [] e x rest = refl
set_front (a ∷ front) e x rest = ap (λ (l : List Object). a ∷ l) (set_front front e x rest)

length_snoc : (front : List Object) (x : Object) → length (front ++ (x ∷ [])) ≡ suc (length front)
length_snoc [] x = refl
length_snoc (a ∷ front) x = ap suc (length_snoc front x)

pub returned_listed : (front xs : List Object) → returned (front ++ replicate (length xs) empty) (listed (suc (length front)) xs) ≡ front ++ xs
unfolding returned listed
returned_listed front [] = refl
returned_listed front (x ∷ xs) =
    let ih : returned ((front ++ (x ∷ [])) ++ replicate (length xs) empty) (listed (suc (suc (length front))) xs) ≡ front ++ (x ∷ xs)
    = rw (length_snoc front x, append_assoc front (x ∷ []) xs) at (returned_listed (front ++ (x ∷ [])) xs) in
    by_bool (occupied x) (λ t. rw t (ap (λ (os : List Object). returned os (listed (suc (suc (length front))) xs)) (set_front front empty x (replicate (length xs) empty)) ∙ ih))
    (λ f. let e = empty_is x f in rw (f, e) (rw (append_assoc front (x ∷ []) (replicate (length xs) empty), e) at ih))

-- WAITS
reads_mode : (m : Mode) → Reads (word_line (("mode=any\n", any) ∷ ("mode=all\n", all) ∷ [])) (mode_text m) m
unfolding word_line after
reads_mode any = record { reads = λ rest. refl }
reads_mode all = record { reads = λ rest. refl }

reads_clock : (c : ℕ) → c < 2 → Reads (word_line (("clock=mono\n", 0) ∷ ("clock=real\n", 1) ∷ [])) (clock_text c) c
unfolding word_line after
reads_clock zero h = record { reads = λ rest. refl }
reads_clock (suc zero) h = record { reads = λ rest. refl }
reads_clock (suc (suc c)) h = absurd (let z : ⊥ = omega arith in z)

reads_list : (os : List Object) (hs : List ℕ) → length os ≡ object_places → all_occupied os hs ≡ true → All (λ h. Reads (number_line "obj=" 1 object_places) (line "obj=" h) h) hs
unfolding all_occupied
reads_list os [] p e = tt
reads_list os (h ∷ hs) p e = let (a, b) = and_split (occupied (object_at os h)) (all_occupied os hs) e in let (l, u) = in_places os h a in
    (reads_number "obj=" h l (omega arith) (lit≤ tt), reads_list os hs p b)

alert_range : (os : List Object) (w : Wait) → length os ≡ object_places → (eqb w.alert 0 || is_event (object_at os w.alert)) ≡ true → w.alert ≤ object_places
alert_range os w p e = by_bool (eqb w.alert 0) (λ t. let z = eqb-true w.alert 0 t in omega arith)
    (λ f. let i : is_event (object_at os w.alert) ≡ true = rw f at e in let l : w.alert ≤ length os = (in_places os w.alert (event_occupied (object_at os w.alert) i)).1 in omega arith)

reads_wait : (os : List Object) (w : Wait) → length os ≡ object_places → valid_wait os w ≡ true → 0 < w.ticket → w.ticket < word64 → Reads read_wait (wait_text w) w
unfolding read_wait wait_text
reads_wait os w p g z k = let (t0, (t1, (t2, (t3, (t4, (t5, (t6, (t7, t8)))))))) = passed _ g in
    let n : length w.list ≤ max_listed = ltb-false max_listed (length w.list) (not-true _ t5) in
    let c : w.timeout < word64 = ltb-true _ _ t3 in
    reads_then _ (reads_number "wait=" w.ticket z (omega arith) (lit≤ tt)) (reads_then _ (reads_mode w.mode) (reads_then _ (reads_32 "owner=" w.owner (ltb-true _ _ t1))
    (reads_then _ (reads_clock w.clock (ltb-true _ _ t2)) (reads_then _ (reads_number "timeout=" w.timeout (omega arith) (omega arith) (lit≤ tt))
    (reads_then _ (reads_number "alert=" w.alert (omega arith) (alert_range os w p t7) (lit≤ tt)) (reads_then _ (reads_number "n=" (length w.list) (omega arith) n (lit≤ tt))
    (reads_last (λ l. record { ticket = w.ticket; mode = w.mode; owner = w.owner; clock = w.clock; timeout = w.timeout; alert = w.alert; list = l })
    (reads_times (number_line "obj=" 1 object_places) (line "obj=") w.list (reads_list os w.list p t6)))))))))

-- THE QUEUE: its waits stand in the places, and are no more than those
pub queue_within : (n last : ℕ) (ws : List WaitPlace) → All (λ w. w is_in ws) (queue_from n last ws)
unfolding queue_from
queue_within zero last ws = tt
queue_within (suc n) last ws = by_option (oldest (λ w. ltb last w.ticket) ws) (λ e. rw e tt)
    (λ w e. rw e ((oldest_some (λ w. ltb last w.ticket) ws w e).stands, queue_within n w.ticket ws))

pub queue_most : (n last : ℕ) (ws : List WaitPlace) → length (queue_from n last ws) ≤ n
unfolding queue_from
queue_most zero last ws = omega arith
queue_most (suc n) last ws = by_option (oldest (λ w. ltb last w.ticket) ws) (λ e. rw e (omega arith))
    (λ w e. rw e (let l = queue_most n w.ticket ws in omega arith))

pub all_map : {A : Type 0} {P Q : A → Type 0} (l : List A) → ((a : A) → P a → Q a) → All P l → All Q l
all_map [] f h = tt
all_map (a ∷ l) f h = (f a h.0, all_map l f h.1)

-- THE WHOLE
abbrev pub lines_of : State → Lines
lines_of s = record { next = s.next; objects = listed 1 s.objects; waits = queue s; sum = byte_sum (snapshot_body s) % word32 }

snapshot_flat : (s : State) → snapshot_text s ≡ line "next=" s.next ++ (line "objects=" (length (listed 1 s.objects)) ++ (joined entry_text (listed 1 s.objects)
    ++ (line "waits=" (length (queue s)) ++ (joined wait_text (queue s) ++ line "sum=" (byte_sum (snapshot_body s) % word32)))))
unfolding snapshot_text snapshot_body
snapshot_flat s = rw (← (listed_text 1 s.objects), ← (listed_count 1 s.objects)) (simp append_assoc)

pub reads_snapshot : (s : State) → Valid s → Reads read_snapshot (snapshot_text s) (lines_of s)
unfolding read_snapshot
reads_snapshot s g = let p = g.places in let q = g.slots in let k = listed_most 1 s.objects in let m = queue_most (length s.waits) 0 s.waits in
    let b : s.next < word64 = g.bounded in let o : 0 < s.next = g.started in
    let ws : All (λ w. Reads read_wait (wait_text w) w) (queue s) = all_map (queue s) (λ w i. let (l, u) = g.tickets w i in reads_wait s.objects w p (g.waits w i) l (omega arith)) (queue_within (length s.waits) 0 s.waits) in
    rw (snapshot_flat s) (reads_then _ (reads_number "next=" s.next o (omega arith) (lit≤ tt)) (reads_then _ (reads_number "objects=" (length (listed 1 s.objects)) (omega arith) (omega arith) (lit≤ tt))
    (reads_then _ (reads_times read_object entry_text (listed 1 s.objects) (reads_objects 1 s.objects (omega arith) (omega arith) (λ i. g.objects (suc i))))
    (reads_then _ (reads_number "waits=" (length (queue s)) (omega arith) (omega arith) (lit≤ tt)) (reads_then _ (reads_times read_wait wait_text (queue s) ws)
    (reads_last (λ u. record { next = s.next; objects = listed 1 s.objects; waits = queue s; sum = u }) (reads_32 "sum=" (byte_sum (snapshot_body s) % word32) (mod-lt (byte_sum (snapshot_body s)) (lit< tt)))))))))

-- the lines of a valid state, and what they show
pub snapshot_read : (s : State) → Valid s → read_snapshot (snapshot_text s) ≡ good (lines_of s) []
snapshot_read s g = rw (append-nil (snapshot_text s)) at ((reads_snapshot s g).reads [])

pub shown_placed : (s : State) → Valid s → shown (lines_of s) ≡ placed s
shown_placed s g = let e : returned (replicate object_places empty) (listed 1 s.objects) ≡ s.objects = (let r = returned_listed [] s.objects in rw g.places at r) in rw e
