-- "Its snapshot is this text" is the list of tests that code makes (specs/RestoreTests).
use mathlib.Core.Path.{◌≡◌, refl, ap, sym, ◌∙◌, subst}
use mathlib.Core.Bool.{true, cond}
use mathlib.Core.List.{List, [], ◌∷◌, ◌++◌, map, append-nil}
use Prim.Native.Nat.{ℕ, zero, suc, ◌+◌, ◌-◌, ◌%◌, ◌≤◌}
use native.Mathlib.Omega.{arith}
use lib.ListN.{length, replicate, length-append, length-map, length-replicate}
use lib.Dec.{eqb, ltb}
use borrow.Author.Tests.{ltb-true, lt-ltb, eqb-true, eqb-false, eq-eqb}
use Rattle.model.specs.Sizes.{object_places, wait_places, word32}
use Rattle.model.specs.Basics.{All}
use Rattle.model.specs.Objects.{Object, empty, occupied}
use Rattle.model.specs.Waits.{Wait, free, waiting, State}
use Rattle.model.specs.Snapshot.{line, snapshot_body, byte_sum, snapshot_text}
use Rattle.model.specs.Layout.{same_cells}
use Rattle.model.proofs.Logic.{by_bool, and_split, same_tests, passed, pass}
use Rattle.model.proofs.Valid.{Valid}
use Rattle.model.proofs.Validity.{same_refl, same_eq}
use Rattle.model.specs.Reading.{good, Lines, read_snapshot}
use Rattle.model.specs.Restore.{returned, lowest_places, shown, queue}
use Rattle.model.specs.RestoreTests.{body_text, rising, handles, tickets, in_order}
use Rattle.model.proofs.ReadBack.{listed, listed_text, listed_count, returned_listed, lines_of, snapshot_read}
use Rattle.model.proofs.Placed.{Rising, queue_rising, queue_again}
use Rattle.model.proofs.ReadExactly.{Listable, Sensible, snapshot_exact}

nothing : (rest : List ℕ) → length rest ≡ 0 → rest ≡ []
nothing [] e = refl
nothing (b ∷ rest) e = absurd (let z : ⊥ = omega arith in z)

-- TICKETS
rising_tickets : (last : ℕ) (q : List Wait) → rising last (tickets q) ≡ true → Rising last q
unfolding rising
rising_tickets last [] e = tt
rising_tickets last (w ∷ q) e = let (a, b) = and_split (ltb last w.ticket) (rising w.ticket (tickets q)) e in (ltb-true last w.ticket a, rising_tickets w.ticket q b)

tickets_rising : (last : ℕ) (q : List Wait) → Rising last q → rising last (tickets q) ≡ true
unfolding rising
tickets_rising last [] r = refl
tickets_rising last (w ∷ q) r = rw (lt-ltb last w.ticket r.0, tickets_rising w.ticket q r.1)

-- HANDLES: a list of objects by rising handles is the listing of some places
spread : ℕ → ℕ → List (ℕ × Object) → List Object
spread h zero os = []
spread h (suc k) [] = empty ∷ spread (suc h) k []
spread h (suc k) (x ∷ os) = cond (eqb x.0 h) (x.1 ∷ spread (suc h) k os) (empty ∷ spread (suc h) k (x ∷ os))

spread_length : (h k : ℕ) (os : List (ℕ × Object)) → length (spread h k os) ≡ k
unfolding spread
spread_length h zero os = refl
spread_length h (suc k) [] = ap suc (spread_length (suc h) k [])
spread_length h (suc k) (x ∷ os) = by_bool (eqb x.0 h) (λ t. rw t (ap suc (spread_length (suc h) k os))) (λ f. rw f (ap suc (spread_length (suc h) k (x ∷ os))))

listed_spread : (last k : ℕ) (os : List (ℕ × Object)) → last + k ≡ object_places → rising last (handles os) ≡ true → All Listable os → listed (suc last) (spread (suc last) k os) ≡ os
unfolding spread listed rising
listed_spread last zero [] s r e = refl
listed_spread last zero (x ∷ os) s r e = absurd (let (a, b) = and_split (ltb last x.0) (rising x.0 (handles os)) r in let l = ltb-true last x.0 a in let h : x.0 ≤ object_places = e.0.high in let z : ⊥ = omega arith in z)
listed_spread last (suc k) [] s r e = listed_spread (suc last) k [] (omega arith) refl tt
listed_spread last (suc k) (x ∷ os) s r e = let (a, b) = and_split (ltb last x.0) (rising x.0 (handles os)) r in by_bool (eqb x.0 (suc last))
    (λ t. let p : x.0 ≡ suc last = eqb-true x.0 (suc last) t in let o : occupied x.1 ≡ true = e.0.occupied in
    let ih = listed_spread (suc last) k os (omega arith) (rw p at b) e.1 in
    rw (t, o) (ap (λ (l : List (ℕ × Object)). (suc last, x.1) ∷ l) ih ∙ ap (λ (n : ℕ). (n, x.1) ∷ os) (sym p)))
    (λ f. let n = eqb-false x.0 (suc last) f in let l = ltb-true last x.0 a in
    rw f (listed_spread (suc last) k (x ∷ os) (omega arith) (rw (lt-ltb (suc last) x.0 (omega arith)) b) e))

returned_list : (os : List (ℕ × Object)) → rising 0 (handles os) ≡ true → All Listable os → listed 1 (returned (replicate object_places empty) os) ≡ os
returned_list os r e = let q : List Object = spread 1 object_places os in let l : listed 1 q ≡ os = listed_spread 0 object_places os refl r e in
    let p : returned (replicate object_places empty) os ≡ q = (let z : returned (replicate (length q) empty) (listed 1 q) ≡ q = returned_listed [] q in rw (spread_length 1 object_places os, l) at z) in
    ap (listed 1) p ∙ l

listed_rising : (last : ℕ) (xs : List Object) (low : ℕ) → low ≤ last → rising low (handles (listed (suc last) xs)) ≡ true
unfolding rising listed
listed_rising last [] low h = refl
listed_rising last (x ∷ xs) low h = by_bool (occupied x) (λ t. rw (t, lt-ltb low (suc last) (omega arith)) (listed_rising (suc last) xs (suc last) (omega arith))) (λ f. rw f (listed_rising (suc last) xs low (omega arith)))

-- BOTH WAYS
body_lines : (s : State) → snapshot_body s ≡ body_text (lines_of s)
unfolding snapshot_body
body_lines s = rw (listed_text 1 s.objects, listed_count 1 s.objects)

shown_queue : (ws : List Wait) (os : List Object) (n : ℕ) → rising 0 (tickets ws) ≡ true → length ws ≤ wait_places → queue (record { objects = os; waits = lowest_places ws; next = n }) ≡ ws
shown_queue ws os n r l = let k = wait_places - length ws in let a = length-append (map waiting ws) (replicate k free) in let b = length-map ws waiting in let c = length-replicate k free in
    queue_again (length (lowest_places ws)) 0 [] ws k (λ v m. absurd m) (rising_tickets 0 ws r) (omega arith)

shown_body : (l : Lines) → Sensible l → rising 0 (handles l.objects) ≡ true → rising 0 (tickets l.waits) ≡ true → snapshot_body (shown l) ≡ body_text l
shown_body l g h t = body_lines (shown l) ∙ rw (returned_list l.objects h g.entries, shown_queue l.waits (shown l).objects l.next t g.few)

order_writes : (text : List ℕ) (l : Lines) (rest : List ℕ) → read_snapshot text ≡ good l rest → in_order l rest ≡ true → snapshot_text (shown l) ≡ text
unfolding snapshot_text
order_writes text l rest e o = let (t0, (t1, (t2, (t3, t4)))) = passed _ o in let (x, g) = snapshot_exact.exact text l rest e in
    let b : snapshot_body (shown l) ≡ body_text l = shown_body l g t0 t1 in let u : l.sum ≡ byte_sum (body_text l) % word32 = eqb-true _ _ t2 in
    let n : rest ≡ [] = nothing rest (eqb-true (length rest) 0 t3) in
    rw (b, ← u) (sym (x ∙ (ap (λ (r : List ℕ). (body_text l ++ line "sum=" l.sum) ++ r) n ∙ append-nil (body_text l ++ line "sum=" l.sum))))

writes_order : (text : List ℕ) (l : Lines) (rest : List ℕ) → read_snapshot text ≡ good l rest → Valid (shown l) → snapshot_text (shown l) ≡ text → in_order l rest ≡ true
writes_order text l rest e v w =
    let r : good l rest ≡ good (lines_of (shown l)) [] = sym e ∙ (ap read_snapshot (sym w) ∙ snapshot_read (shown l) v) in
    let p : lines_of (shown l) ≡ l = cc in let q : [] ≡ rest = cc in
    subst (λ (r : List ℕ). in_order l r ≡ true) q (subst (λ (k : Lines). in_order k [] ≡ true) p
    (pass _ (
      listed_rising 0 (shown l).objects 0 (omega arith),
      (
        tickets_rising 0 (queue (shown l)) (queue_rising (length (shown l).waits) 0 (shown l).waits),
        (eq-eqb _ _ (ap (λ (b : List ℕ). byte_sum b % word32) (body_lines (shown l))), (refl, tt)),
      ),
    )))

-- Where the lines are read and what they show is valid, the text is the writer's exactly if these four hold.
pub written_in_order : (text : List ℕ) (l : Lines) (rest : List ℕ) → read_snapshot text ≡ good l rest → Valid (shown l) → same_cells (snapshot_text (shown l)) text ≡ in_order l rest
written_in_order text l rest e v = same_tests _ _ (λ t. writes_order text l rest e v (same_eq _ _ t)) (λ t. rw (order_writes text l rest e t) (same_refl text))
