-- From cells to the meaning: what a call leaves by the definitions of `cells` is what a host sees of its outcome.
use Prim.Native.Nat.{ℕ, ◌<◌, ◌≤◌}
use borrow.Author.Tests.{lt-ltb, le-ltb}
use mathlib.Core.Path.{◌≡◌, refl, sym, ap, ◌∙◌}
use mathlib.Core.Bool.{true, false, cond}
use mathlib.Core.List.{List, [], ◌∷◌}
use lib.ListN.{length}
use lib.Dec.{ltb}
use Rattle.std.specs.Borrow.{MutBor}
use Rattle.std.specs.Prelude.{Option, None, Some, MatchOption, Result, Ok, Err}
use Rattle.std.specs.Option.{ok_or}
use Rattle.std.proofs.lemmas.Result.{IfErr-at_err}
use Rattle.std.specs.Result.{IsErr, IsErrAnd}
use Rattle.model.specs.Calls.{Operation, Lent, lend, nothing_lent, wake_lent, asks}
use Rattle.model.specs.Sizes.{wake_length}
use Rattle.cells.specs.Validity.{valid_cells}
use Rattle.ntsync_guard.specs.Work.{tested}
use Rattle.model.specs.Layout.{table_length}
use Rattle.model.specs.Steps.{table_step, Seen, sees, seen}
use Rattle.cells.specs.Calls.{Result as Left, refused_with, on_cells, call_cells, guarded}
use Rattle.validity.proofs.Laws.{whole_short}
use Rattle.refine.proofs.Validity.{Words}
use Rattle.refine.proofs.Refinement.{call_means}

-- what the cells' result shows of an outcome
abbrev pub shown : Left → Seen
shown r = sees (r.answer ∷ r.first ∷ r.second ∷ r.woken ∷ []) (lend r.wake r.buffer) r.tables

-- the error that a `?` hands on
pub handed_on : {R E : Type 0} {e : E} (r : Result R E) → IsErr r × IsErrAnd r (λ x. x ≡ e) → r ≡ Err e
handed_on (Ok x) h = absurd h.1
handed_on (Err d) h = ap Err h.1

pub none_handed_on : {T R E : Type 0} {d e : E} (o : Option T) (r : Result R E) → IsErr r × IsErrAnd r (λ x. x ≡ d) → Err d ≡ ok_or o e → o ≡ None → r ≡ Err e
none_handed_on {d = d} o r h q n = handed_on r h ∙ ap Err (IfErr-at_err (λ x. d ≡ x) (q ∙ rw n) refl)

-- an array that is handed out of valid tables is all of them
pub found_sound : (t : List ℕ) {P : MutBor (List ℕ) → Type 0} (o : Option (MutBor (List ℕ))) → ((y : MutBor (List ℕ)) → P y → y.now ≡ t) → valid_cells t ≡ true
    → MatchOption o (length t ≡ table_length → ⊥) P → MatchOption o (valid_cells t ≡ false) (λ y. (y.now ≡ t) × (valid_cells y.now ≡ true))
found_sound t (Some y) f v h = let e = f y h in (e, rw e v)
found_sound t None f v h = sym (whole_short t h)

-- every call: a result by the cells' definition is what a host sees
pub means : (op : Operation) (t : List ℕ) (l : Lent) {r : Left} → Words t → r ≡ guarded l t (on_cells op t l) → seen (table_step t (asks op l)) ≡ shown r
unfolding call_cells
means op t l w e = ap shown (sym (e ∙ call_means (asks op l) t w))

-- the tests before a call's work, where the tables t were lent as an array u; the last is of a wake list
module _ (t : List ℕ) {u : List ℕ} (same : u ≡ t) where
  pub corrupt_out : (l : Lent) (r : Left) → valid_cells u ≡ false → refused_with 9 u l ≡ guarded l t r
  corrupt_out l r n = rw (← same, n)

  pub sound_in : (l : Lent) {r s : Left} → valid_cells u ≡ true → s ≡ r → s ≡ guarded l t r
  sound_in l y e = rw (← same, y) e

  module _ (wake : List ℕ) (r : Left) where
    pub short_out : valid_cells u ≡ true → length wake < wake_length → refused_with 12 u (wake_lent wake) ≡ tested t wake r
    short_out y l = rw (← same, y, lt-ltb (length wake) wake_length l)

    pub long_in : {s : Left} → valid_cells u ≡ true → wake_length ≤ length wake → s ≡ r → s ≡ tested t wake r
    long_in y l e = rw (← same, y, le-ltb (length wake) wake_length l) e

-- which of the two tests of the calls that wake refuses: 9, then 12, or none; for `wakes_refused` and `wakes_done` of ntsync_signals alone, which landing 3 names
abbrev pub tests : List ℕ → List ℕ → ℕ
tests t wake = cond (valid_cells t) (cond (ltb (length wake) wake_length) 12 0) 9

-- a call that nothing is lent but tables: refused where they are corrupt, and else its work (to be read, as landing 3 names them: no proof needs them)
module _ (op : Operation) (t : List ℕ) (w : Words t) where
  pub corrupt : valid_cells t ≡ false → seen (table_step t (asks op nothing_lent)) ≡ shown (refused_with 9 t nothing_lent)
  corrupt n = means op t nothing_lent w (corrupt_out t refl nothing_lent (on_cells op t nothing_lent) n)

  pub served : {r : Left} → valid_cells t ≡ true → r ≡ on_cells op t nothing_lent → seen (table_step t (asks op nothing_lent)) ≡ shown r
  served y e = means op t nothing_lent w (sound_in t refl nothing_lent y e)
