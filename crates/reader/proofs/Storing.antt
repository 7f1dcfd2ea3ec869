-- The cells that code stores as it reads are those of the state that the lines show.
use mathlib.Core.Path.{◌≡◌, refl, ap, ◌∙◌}
use mathlib.Core.List.{List, [], ◌∷◌, ◌++◌, map, append-nil, append_assoc}
use Prim.Native.Nat.{ℕ, suc, ◌+◌, ◌-◌, ◌≤◌}
use native.Mathlib.Omega.{arith}
use lib.ListN.{length, get_or, set, replicate, length-append, length-map, length-replicate}
use Rattle.model.specs.Sizes.{object_places, wait_places, max_listed}
use Rattle.model.specs.Basics.{All}
use Rattle.model.specs.Objects.{Object, empty}
use Rattle.model.specs.Waits.{Wait, WaitPlace, free, waiting, State, initial, with_objects, with_waits, put_at, put_object}
use Rattle.model.specs.Layout.{mode_cell, table_length, encode, valid_state, valid_tables}
use Rattle.model.proofs.Cells.{Shaped, view_shaped}
use Rattle.model.proofs.Valid.{length_put_at}
use Rattle.model.proofs.Validity.{same_refl}
use Rattle.cells.specs.Calls.{put_header, put_list}
use Rattle.refine.proofs.Objects.{store_is}
use Rattle.refine.proofs.Wait.{put_front, put_wait, next_cell}
use Rattle.model.specs.Reading.{Lines}
use Rattle.model.specs.Restore.{returned, shown}
use Rattle.model.proofs.Placed.{places_among, among_all}
use Rattle.model.proofs.ReadExactly.{Sensible}
use Rattle.cells.specs.Waits.{put_next}
use Rattle.model.proofs.Tables.{initial_tables}
use Rattle.reader.specs.Storing.{stored, queued_from, built}

-- OBJECTS
pub returned_length : (os : List Object) (xs : List (ℕ × Object)) → length (returned os xs) ≡ length os
unfolding returned
returned_length os [] = refl
returned_length os (x ∷ xs) = returned_length (put_at os x.0 x.1) xs ∙ length_put_at os x.0 x.1

pub stored_is : (s : State) (xs : List (ℕ × Object)) → length s.objects ≡ object_places → stored (encode s) xs ≡ encode (with_objects s (returned s.objects xs))
unfolding stored returned
stored_is s [] p = refl
stored_is s (x ∷ xs) p = ap (λ (t : List ℕ). stored t xs) (store_is s p x.0 x.1) ∙ stored_is (put_object s x.0 x.1) xs (length_put_at s.objects x.0 x.1 ∙ p)

-- WAITS: those that are placed, then free places
abbrev Fitting : Wait → Type 0
Fitting w = (1 ≤ w.ticket) × (length w.list ≤ max_listed)

abbrev filling : State → List Wait → ℕ → State
filling s ws k = with_waits s (map waiting ws ++ replicate k free)

filling_shaped : (s : State) (ws : List Wait) (k : ℕ) → length s.objects ≡ object_places → length ws + k ≡ wait_places → All Fitting ws → Shaped (filling s ws k)
filling_shaped s ws k p n h = record {
  places = p;
  slots = (let a = length-append (map waiting ws) (replicate k free) in let b = length-map ws waiting in let c = length-replicate k free in omega arith);
  waits = λ w m. among_all Fitting ws h w (places_among ws k w m);
}

free_there : (ws : List Wait) (k : ℕ) → get_or (map waiting ws ++ replicate (suc k) free) (length ws) free ≡ free
free_there [] k = refl
free_there (w ∷ ws) k = free_there ws k

set_there : (ws : List Wait) (w : Wait) (k : ℕ) → set (map waiting ws ++ replicate (suc k) free) (length ws) (waiting w) ≡ map waiting (ws ++ (w ∷ [])) ++ replicate k free
set_there [] w k = refl
set_there (v ∷ ws) w k = ap (λ (l : List WaitPlace). waiting v ∷ l) (set_there ws w k)

all_then : (P : Wait → Type 0) (ws : List Wait) (w : Wait) → All P ws → P w → All P (ws ++ (w ∷ []))
all_then P [] w h p = (p, tt)
all_then P (v ∷ ws) w h p = (h.0, all_then P ws w h.1 p)

length_then : (ws : List Wait) (w : Wait) → length (ws ++ (w ∷ [])) ≡ suc (length ws)
length_then [] w = refl
length_then (v ∷ ws) w = ap suc (length_then ws w)

queued_is : (s : State) (ahead ws : List Wait) (k : ℕ) → length s.objects ≡ object_places → length ahead + (length ws + k) ≡ wait_places → All Fitting ahead → All Fitting ws
    → queued_from (encode (filling s ahead (length ws + k))) (length ahead) ws ≡ encode (filling s (ahead ++ ws) k)
unfolding queued_from
queued_is s ahead [] k p n h g = let z : 0 + k ≡ k = omega arith in rw (append-nil ahead, z)
queued_is s ahead (w ∷ ws) k p n h g =
    let j : ℕ = length ws + k in let e : suc (length ws) + k ≡ suc j = omega arith in let l : length w.list ≤ max_listed = g.0.1 in
    let one : put_list (put_header (encode (filling s ahead (suc j))) (length ahead) w.ticket (mode_cell w.mode) w.owner w.clock w.timeout (length w.list) w.alert) (length ahead) w.list ≡ encode (filling s (ahead ++ (w ∷ [])) j)
    = put_front (encode (filling s ahead (suc j))) (length ahead) w
    ∙ (put_wait (filling s ahead (suc j)) (length ahead) w (filling_shaped s ahead (suc j) p (omega arith) h) (omega arith) (free_there ahead j) l
    ∙ ap (λ (q : List WaitPlace). encode (with_waits s q)) (set_there ahead w j)) in
    let ih : queued_from (encode (filling s (ahead ++ (w ∷ [])) j)) (suc (length ahead)) ws ≡ encode (filling s (ahead ++ (w ∷ ws)) k)
    = rw (length_then ahead w, append_assoc ahead (w ∷ []) ws) at (queued_is s (ahead ++ (w ∷ [])) ws k p (let m = length_then ahead w in omega arith) (all_then Fitting ahead w h g.0) g.1) in
    rw e (ap (λ (t : List ℕ). queued_from t (suc (length ahead)) ws) one ∙ ih)

-- zeros, but for the next ticket, are empty tables
blank_next : (n : ℕ) → put_next (replicate table_length 0) n ≡ set (encode initial) 0 n
blank_next n = rw initial_tables

-- THE TABLES BUILT are those of the state shown
pub built_is : (l : Lines) → Sensible l → built l ≡ encode (shown l)
built_is l g =
    let s0 : State = record { objects = replicate object_places empty; waits = replicate wait_places free; next = l.next } in
    let s1 : State = with_objects s0 (returned (replicate object_places empty) l.objects) in
    let p : length s1.objects ≡ object_places = returned_length (replicate object_places empty) l.objects ∙ length-replicate object_places empty in
    let a : stored (put_next (replicate table_length 0) l.next) l.objects ≡ encode s1 = ap (λ (t : List ℕ). stored t l.objects) (blank_next l.next ∙ next_cell initial l.next) ∙ stored_is s0 l.objects (length-replicate object_places empty) in
    let k : ℕ = wait_places - length l.waits in let few = g.few in let e : wait_places ≡ length l.waits + k = omega arith in
    ap (λ (t : List ℕ). queued_from t 0 l.waits) a
    ∙ (ap (λ (n : ℕ). queued_from (encode (with_waits s1 (replicate n free))) 0 l.waits) e ∙ queued_is s1 [] l.waits k p (omega arith) tt g.waits)

pub shown_shaped : (l : Lines) → Sensible l → Shaped (shown l)
shown_shaped l g = let few = g.few in filling_shaped (record { objects = returned (replicate object_places empty) l.objects; waits = []; next = l.next }) l.waits (wait_places - length l.waits)
    (returned_length (replicate object_places empty) l.objects ∙ length-replicate object_places empty) (omega arith) g.waits

pub shaped_test : (s : State) → Shaped s → valid_tables (encode s) ≡ valid_state s
unfolding valid_tables
shaped_test s g = rw (view_shaped s g, same_refl (encode s))
