-- What the check's definitions come to on each way through the code.
use Prim.Native.Nat.{ℕ}
use mathlib.Core.Path.{◌≡◌, refl, sym, ap, ◌∙◌}
use mathlib.Core.Bool.{Bool, true, false, not, ◌&&◌, ◌||◌, and_assoc, and-true, and-false}
use mathlib.Core.List.{List, [], ◌∷◌, ◌++◌}
use Rattle.model.specs.Basics.{all_of}
use lib.Dec.{eqb, ltb, leb}
use lib.ListN.{length}
use Rattle.model.proofs.Logic.{by_bool}
use borrow.Author.Tests.{eq-eqb, ne_eqb}
use Rattle.model.specs.Sizes.{object_places, wait_places, max_listed, word32}
use Rattle.model.specs.Layout.{table_length, in_wait}
use Rattle.cells.specs.Fold.{all_below}
use Rattle.cells.specs.Objects.{Fields, fields_at, named}
use Rattle.cells.specs.Waits.{next_ticket, ticket_at, mode_at, owner_at, clock_at, count_at, alert_at, list_of, has}
use Rattle.kinds.proofs.Laws.{joined_left, all_left, highest, has_32_bits}
use Rattle.cells.specs.Validity.{valid_fields, occupied_at, event_at, too_few, occupied_list, repeated_list, proper_handles, proper_list, proper_alert, unused_zero, alone_at, header_tests, names_tests, valid_queued, valid_free, valid_place, valid_cells}

pub all_joined : (xs ys : List Bool) → (all_of xs && all_of ys) ≡ all_of (xs ++ ys)
unfolding all_of
all_joined [] ys = refl
all_joined (a ∷ xs) ys = and_assoc a (all_of xs) (all_of ys) ∙ ap (λ (b : Bool). a && b) (all_joined xs ys)

-- a header, from what was read of it
pub header_valid : (t : List ℕ) (p : ℕ) {ticket next mode owner clock n : ℕ} {alone : Bool} → ticket ≡ ticket_at t p → next ≡ next_ticket t → alone ≡ alone_at t p → mode ≡ mode_at t p → owner ≡ owner_at t p → clock ≡ clock_at t p → n ≡ in_wait t p 5
    → joined_left (ltb ticket next) (alone ∷ leb mode 1 ∷ ltb 0 owner ∷ leb owner highest ∷ leb clock 1 ∷ leb n max_listed ∷ []) ≡ all_of (header_tests t p)
header_valid t p e₁ e₂ e₃ e₄ e₅ e₆ e₇ = rw (e₁, e₂, e₃, e₄, e₅, has_32_bits (owner_at t p), e₆, e₇) (all_left (ltb (ticket_at t p) (next_ticket t)) (alone_at t p ∷ leb (mode_at t p) 1 ∷ ltb 0 (owner_at t p) ∷ ltb (owner_at t p) word32 ∷ leb (clock_at t p) 1 ∷ leb (in_wait t p 5) max_listed ∷ []))

pub place_valid : (t : List ℕ) (p : ℕ) {ticket : ℕ} {header names : Bool} → ticket ≡ ticket_at t p → (ticket ≡ 0 → ⊥) → header ≡ all_of (header_tests t p) → names ≡ all_of (names_tests t p) → (header && names) ≡ valid_place t p
unfolding valid_place valid_queued
place_valid t p {ticket} e n a b = let z : eqb (ticket_at t p) 0 ≡ false = ap (λ (k : ℕ). eqb k 0) (sym e) ∙ ne_eqb ticket 0 n in rw (z, a, b) (all_joined (header_tests t p) (names_tests t p))

pub place_free : (t : List ℕ) (p : ℕ) {ticket : ℕ} → ticket ≡ ticket_at t p → ticket ≡ 0 → valid_free t p ≡ valid_place t p
unfolding valid_place
place_free t p {ticket} e z = let y : eqb (ticket_at t p) 0 ≡ true = ap (λ (k : ℕ). eqb k 0) (sym e) ∙ eq-eqb ticket 0 z in rw y

-- the whole
pub whole_short : (t : List ℕ) → (length t ≡ table_length → ⊥) → false ≡ valid_cells t
unfolding valid_cells all_of
whole_short t n = rw (ne_eqb (length t) table_length n)

pub whole_valid : (t : List ℕ) {next : ℕ} {objects waits : Bool} → length t ≡ table_length → next ≡ next_ticket t → objects ≡ all_below (λ p. valid_fields (fields_at t p)) object_places → waits ≡ all_below (valid_place t) wait_places
    → joined_left (ltb 0 next) (objects ∷ waits ∷ []) ≡ valid_cells t
unfolding valid_cells all_of
whole_valid t l a b c = rw (a, b, c, eq-eqb (length t) table_length l) (all_left (ltb 0 (next_ticket t)) (all_below (λ p. valid_fields (fields_at t p)) object_places ∷ all_below (valid_place t) wait_places ∷ []))

-- by handle
pub occupied_is : (t : List ℕ) (h : ℕ) (x : Fields) → x ≡ named t h → ltb 0 x.kind ≡ occupied_at t h
unfolding occupied_at
occupied_is t h x e = rw e

pub event_is : (t : List ℕ) (h : ℕ) (x : Fields) → x ≡ named t h → eqb x.kind 3 ≡ event_at t h
unfolding event_at
event_is t h x e = rw e

pub proper_any : (t list : List ℕ) (mode alert : ℕ) {r : Bool} → mode ≡ 0 → r ≡ occupied_list t list → r ≡ proper_list t mode list alert
unfolding proper_list proper_handles too_few
proper_any t list mode alert z e = rw (z, and-true (occupied_list t list)) e

pub proper_none : (t list : List ℕ) (mode alert : ℕ) → (mode ≡ 0 → ⊥) → length list ≡ 0 → false ≡ proper_list t mode list alert
unfolding proper_list too_few
proper_none t list mode alert n z = rw (ne_eqb mode 0 n, z)

pub proper_all : (t list : List ℕ) (mode alert : ℕ) {r : Bool} → (length list ≡ 0 → ⊥) → r ≡ proper_handles t mode list alert → r ≡ proper_list t mode list alert
unfolding proper_list too_few
proper_all t list mode alert n e = rw (ne_eqb (length list) 0 n, and-false (not (eqb mode 0))) e

-- what a wait names, from what was read of it
to_last : (e a b c d : Bool) → (((e && (a && b)) && c) && d) ≡ (e && (a && (c && (d && (b && true)))))
to_last true true true c d = rw (and-true d)
to_last true true false c d = rw (and-false d, and-false c)
to_last true false b c d = refl
to_last false a b c d = refl

any_fails : (e a b c : Bool) → false ≡ (e && (a && (b && (false && c))))
any_fails e a b c = rw (and-false b, and-false a, and-false e)

pub names_valid : (t : List ℕ) (p : ℕ) {alert mode : ℕ} {list : List ℕ} {proper unused fit : Bool} → alert ≡ alert_at t p → mode ≡ mode_at t p → list ≡ list_of t p → unused ≡ unused_zero t p (count_at t p) → fit ≡ proper_alert t alert
    → (proper_alert t alert ≡ true → proper ≡ proper_list t mode list alert) → joined_left proper (unused ∷ fit ∷ []) ≡ all_of (names_tests t p)
unfolding proper_list proper_handles all_of
names_valid t p {alert} {mode} {list} {proper} {unused} {fit} a m l u e f = rw (e, u, ← a, ← m, ← l) (by_bool (proper_alert t alert)
    (λ y. rw (f y) (to_last (not (too_few mode (length list))) (occupied_list t list) (eqb mode 0 || not (has list alert || repeated_list list)) (unused_zero t p (count_at t p)) (proper_alert t alert)))
    (λ n. rw (n, and-false (proper && unused_zero t p (count_at t p))) (any_fails (not (too_few mode (length list))) (occupied_list t list) (unused_zero t p (count_at t p)) ((eqb mode 0 || not (has list alert || repeated_list list)) && true))))
