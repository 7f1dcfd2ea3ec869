-- Which texts are accepted, and histories from there on.
use mathlib.Core.Path.{◌≡◌, refl, ap, sym, ◌∙◌, subst}
use mathlib.Core.Bool.{Bool, true, false, cond}
use mathlib.Core.Logic.{◌↔◌}
use mathlib.Core.List.{List, [], ◌∷◌, ◌++◌, map}
use Prim.Native.Nat.{ℕ, ◌-◌}
use native.Mathlib.Omega.{arith}
use lib.ListN.{length, length-append}
use borrow.Author.Tests.{eq-eqb, ne_eqb}
use Rattle.model.specs.Basics.{all_of, All}
use Rattle.model.specs.Waits.{State, initial}
use Rattle.model.specs.Calls.{nothing_lent}
use Rattle.model.specs.Layout.{table_length, encode, valid_state, same_cells}
use Rattle.model.specs.Snapshot.{snapshot_text}
use Rattle.model.specs.Steps.{Outcome, unaltered, on_tables, reference_step, run}
use Rattle.model.specs.Notions.{Quiet, ◌is_in◌}
use Rattle.model.proofs.Logic.{by_bool, differ, passed, pass}
use Rattle.model.proofs.Valid.{Valid}
use Rattle.model.proofs.Validity.{test_valid, valid_test, same_refl, same_eq}
use Rattle.model.proofs.Cells.{encode_length}
use Rattle.model.proofs.History.{Settled, initial_settled, step_settled}
use Rattle.model.proofs.Tables.{settled_step, make_either}
use Rattle.model.specs.Reading.{Read, good, bad, by_read, Lines, read_snapshot}
use Rattle.model.specs.Restore.{shown, quiet, Restored, accepted, refused, judged, restored, placed, SameButPlaces, by_restored, unread, restore_tables, Entry, making, reading, calling, WithinEntry, table_entry, reference_entry}
use Rattle.model.specs.RestoreTests.{in_order}
use Rattle.model.proofs.ReadBack.{lines_of, snapshot_read, shown_placed}
use Rattle.model.proofs.Placed.{placed_in, placed_valid, placed_quiet, placed_text, test_quiet, quiet_test}
use Rattle.model.proofs.ReadExactly.{within_snapshot, by_reading}
use Rattle.model.proofs.ReadTests.{written_in_order}

-- a valid quiet state's text is accepted
pub snapshot_accepted : (s : State) → Valid s → Quiet s → restored (snapshot_text s) ≡ accepted (placed s)
unfolding restored judged
snapshot_accepted s g q =
    let t : all_of (valid_state (placed s) ∷ quiet (placed s) ∷ same_cells (snapshot_text (placed s)) (snapshot_text s) ∷ []) ≡ true
    = pass _ (valid_test (placed s) (placed_valid s g), (quiet_test (placed s) (placed_quiet s g q), (rw (placed_text s g) (same_refl (snapshot_text s)), tt))) in
    rw (snapshot_read s g) (ap (judged (snapshot_text s)) (shown_placed s g) ∙ (rw t))

-- what is accepted is valid, quiet, has that text, and is so placed
pub record Accepted (text : List ℕ) (r : State) : Type 0 where
  pub valid : Valid r
  pub quiet : Quiet r
  pub writes : snapshot_text r ≡ text
  pub lines : Lines
  pub rest : List ℕ
  pub read : read_snapshot text ≡ good lines rest
  pub shows : shown lines ≡ r

from_read : (text : List ℕ) (r : State) (o : Read Lines) → read_snapshot text ≡ o
    → by_read o (λ from. refused (length text - length from)) (λ l rest. judged text (shown l)) ≡ accepted r
    → Accepted text r
unfolding judged
from_read text r (bad from) o e = differ (cc)
from_read text r (good l rest) o e = by_bool (all_of (valid_state (shown l) ∷ quiet (shown l) ∷ same_cells (snapshot_text (shown l)) text ∷ []))
    (λ t. let y : accepted (shown l) ≡ accepted r = rw t at e in let x : shown l ≡ r = cc in let (t0, (t1, (t2, t3))) = passed _ t in
    subst (λ (r : State). Accepted text r) x (record { valid = test_valid (shown l) t0; quiet = test_quiet (shown l) t1; writes = same_eq _ _ t2; lines = l; rest = rest; read = o; shows = refl }))
    (λ f. let y : refused 0 ≡ accepted r = rw f at e in differ (cc))

pub accepted_is : (text : List ℕ) (r : State) → restored text ≡ accepted r → Accepted text r
unfolding restored
accepted_is text r e = from_read text r (read_snapshot text) refl e

pub accepted_placed : (text : List ℕ) (r : State) → restored text ≡ accepted r → r ≡ placed r
accepted_placed text r e = let a = accepted_is text r e in
    let k : restored text ≡ accepted (placed r) = subst (λ (x : List ℕ). restored x ≡ accepted (placed r)) a.writes (snapshot_accepted r a.valid a.quiet) in cc

-- two valid states of one text
pub text_same : (a b : State) → Valid a → Valid b → snapshot_text a ≡ snapshot_text b → SameButPlaces a b
text_same a b g k e =
    let r : good (lines_of a) [] ≡ good (lines_of b) [] = sym (snapshot_read a g) ∙ (ap read_snapshot e ∙ snapshot_read b k) in
    let l : lines_of a ≡ lines_of b = cc in
    let p : placed a ≡ placed b = sym (shown_placed a g) ∙ (ap shown l ∙ shown_placed b k) in
    record {
      objects = ap (λ (s : State). s.objects) p;
      next = ap (λ (s : State). s.next) p;
      waits = λ w. (
        λ m. (placed_in b k w).0 (subst (λ (s : State). w is_in s.waits) p ((placed_in a g w).1 m)),
        λ m. (placed_in a g w).0 (subst (λ (s : State). w is_in s.waits) (sym p) ((placed_in b k w).1 m)),
      );
    }

-- accepted exactly if
pub accepted_exactly : (text : List ℕ) (r : State)
    → (restored text ≡ accepted r) ↔ ((s : State) × (valid_state s ≡ true) × Quiet s × (snapshot_text s ≡ text) × (r ≡ placed s))
accepted_exactly text r = (
  λ e. let a = accepted_is text r e in (r, valid_test r a.valid, a.quiet, a.writes, accepted_placed text r e),
  λ (s, v, q, t, p). subst (λ (x : List ℕ). restored x ≡ accepted r) t (rw p (snapshot_accepted s (test_valid s v) q)),
)

-- the tests that code makes
untrue : (a : Bool) (xs ys : List Bool) (x y : Restored) → a ≡ false → cond (all_of (a ∷ xs)) x y ≡ cond (all_of (a ∷ ys)) x y
unfolding all_of
untrue a xs ys x y f = rw f

pub by_tests : (text : List ℕ) → restored text ≡ by_read (read_snapshot text) (λ from. refused (length text - length from))
    (λ l rest. cond (all_of (valid_state (shown l) ∷ quiet (shown l) ∷ in_order l rest ∷ [])) (accepted (shown l)) (refused 0))
unfolding restored judged
by_tests text = by_reading (read_snapshot text) (λ from e. rw e) (λ l rest e. rw e (by_bool (valid_state (shown l))
    (λ t. ap (λ (b : Bool). cond (all_of (valid_state (shown l) ∷ quiet (shown l) ∷ b ∷ [])) (accepted (shown l)) (refused 0)) (written_in_order text l rest e (test_valid (shown l) t)))
    (λ f. untrue (valid_state (shown l)) _ _ (accepted (shown l)) (refused 0) f)))

-- the offset
pub bad_offset : (text from : List ℕ) → read_snapshot text ≡ bad from → (front : List ℕ) × (text ≡ front ++ from) × (restored text ≡ refused (length front))
unfolding restored
bad_offset text from e = let (x, p) = within_snapshot.within text from e in
    let n : length text - length from ≡ length x = (let a = ap length p in let b = length-append x from in omega arith) in (x, p, rw (e, n))

pub else_zero : (text : List ℕ) (l : Lines) (rest : List ℕ) (o : ℕ) → read_snapshot text ≡ good l rest → restored text ≡ refused o → o ≡ 0
unfolding restored judged
else_zero text l rest o e r = by_bool (all_of (valid_state (shown l) ∷ quiet (shown l) ∷ same_cells (snapshot_text (shown l)) text ∷ []))
    (λ t. let z : accepted (shown l) ≡ refused o = rw (e, t) at r in cc) (λ f. let z : refused 0 ≡ refused o = rw (e, f) at r in cc)

-- HISTORIES
pub accepted_settled : (text : List ℕ) (r : State) → restored text ≡ accepted r → Settled r
accepted_settled text r e = let a = accepted_is text r e in record { valid = a.valid; quiet = a.quiet }

restore_long : (t text : List ℕ) → length t ≡ table_length → restore_tables t text ≡ by_restored (restored text) (λ s. unaltered 0 (nothing_lent) (encode s)) (λ o. unread o t)
unfolding restore_tables
restore_long t text e = rw (eq-eqb (length t) table_length e)

restore_short : (t text : List ℕ) → (length t ≡ table_length → ⊥) → restore_tables t text ≡ unaltered 9 (nothing_lent) t
unfolding restore_tables
restore_short t text n = rw (ne_eqb (length t) table_length n)

pub restore_either : (t text : List ℕ) → (length t ≡ table_length → restore_tables t text ≡ by_restored (restored text) (λ s. unaltered 0 (nothing_lent) (encode s)) (λ o. unread o t))
    × ((length t ≡ table_length → ⊥) → restore_tables t text ≡ unaltered 9 (nothing_lent) t)
restore_either t text = (restore_long t text, restore_short t text)

pub by_either {ℓ} : {P : Type ℓ} (r : Restored) → ((s : State) → r ≡ accepted s → P) → ((o : ℕ) → r ≡ refused o → P) → P
by_either (accepted s) a b = a s refl
by_either (refused o) a b = b o refl

pub settled_rows : (s : State) (es : List Entry) → All WithinEntry es → Settled s → run table_entry (encode s) es ≡ map on_tables (run reference_entry s es)
unfolding run
settled_rows s [] fit t = refl
settled_rows s (making ∷ es) fit t = rw ((make_either (encode s)).0 (encode_length s t.valid.places t.valid.slots)) (ap (λ (os : List (Outcome (List ℕ))). unaltered 0 (nothing_lent) (encode initial) ∷ os)
    (settled_rows initial es fit.1 initial_settled))
settled_rows s (reading text ∷ es) fit t = by_either (restored text)
    (λ r e. rw (restore_long (encode s) text (encode_length s t.valid.places t.valid.slots), e) (ap (λ (os : List (Outcome (List ℕ))). unaltered 0 (nothing_lent) (encode r) ∷ os) (settled_rows r es fit.1 (accepted_settled text r e))))
    (λ o e. rw (restore_long (encode s) text (encode_length s t.valid.places t.valid.slots), e) (ap (λ (os : List (Outcome (List ℕ))). unread o (encode s) ∷ os) (settled_rows s es fit.1 t)))
settled_rows s (calling c ∷ es) fit t = rw (settled_step s c fit.0 t) (ap (λ (os : List (Outcome (List ℕ))). on_tables (reference_step s c) ∷ os)
    (settled_rows (reference_step s c).held es fit.1 (step_settled s c fit.0 t)))
