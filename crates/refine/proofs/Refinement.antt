-- The law that every public contract cites: on any 64-bit cells each call by cells is the library's step of the meaning.
use mathlib.Core.Path.{◌≡◌, ap, sym, ◌∙◌}
use mathlib.Core.Bool.{true}
use mathlib.Core.List.{List}
use Prim.Native.Nat.{ℕ, ◌≤◌}
use lib.ListN.{length}
use lib.Dec.{eqb}
use borrow.Author.Tests.{eqb-true}
use Rattle.model.specs.Calls.{Operation, create, close, reset_event, read, signal, wait, expire, cancel, snapshot, Lent, Call}
use Rattle.model.specs.Layout.{table_length, encode, view, valid_tables}
use Rattle.model.specs.Steps.{library_step, on_tables, table_step, make_tables}
use Rattle.model.specs.Waits.{State}
use Rattle.model.proofs.Logic.{by_bool}
use Rattle.model.proofs.Validity.{tables_valid}
use Rattle.model.proofs.Tables.{initial_tables}
use Rattle.model.proofs.Valid.{Valid}
use Rattle.cells.specs.Calls.{on_cells, call_cells, made_cells, make_cells}
use Rattle.refine.proofs.Calls.{told, means, create_is, close_is, read_is, reset_is, signal_is, expire_is, cancel_is, snapshot_is}
use Rattle.refine.proofs.Fold.{zeros}
use Rattle.refine.proofs.Validity.{Words, valid_cells_lem}
use Rattle.refine.proofs.Wait.{wait_is}
use Rattle.refine.proofs.Snapshot.{snapshot_of_lem}
use Rattle.model.proofs.SnapshotLength.{snapshot_longest}
use Rattle.model.specs.Sizes.{longest_snapshot}
use Rattle.cells.specs.Snapshot.{snapshot_of}
use Rattle.cells.specs.Validity.{valid_cells}

-- on the tables of a valid state
pub call_is : (op : Operation) (l : Lent) (s : State) → Valid s → on_cells op (encode s) l ≡ told (on_tables (library_step s (record { operation = op; lent = l })))
unfolding library_step means
call_is (create k x y) l s g = create_is s g k x y l
call_is (close h) l s g = close_is s g h l
call_is (reset_event h) l s g = reset_is s g h l
call_is (read k h) l s g = read_is s g h l k
call_is (signal how h) l s g = signal_is s g how h l
call_is (wait mode hs o f p a time now) l s g = wait_is s g mode hs o f p a time now l
call_is (expire clock time) l s g = expire_is s g clock time l
call_is (cancel ticket) l s g = cancel_is s g ticket l
call_is snapshot l s g = snapshot_is s g l

-- EVERY CALL, on any 64-bit cells
pub call_means : (c : Call) (t : List ℕ) → Words t → call_cells c t ≡ told (table_step t c)
unfolding call_cells table_step
call_means c t words = rw (valid_cells_lem t words) (by_bool (valid_tables t)
    (λ y. let r = tables_valid t y in rw y (ap (λ (u : List ℕ). on_cells c.operation u c.lent) r.0 ∙ call_is c.operation c.lent (view t) r.1))
    (λ n. rw n))

-- MAKING
pub make_means : (t : List ℕ) → make_cells t ≡ told (make_tables t)
unfolding make_cells made_cells make_tables
make_means t = by_bool (eqb (length t) table_length) (λ y. rw (y, zeros table_length t (eqb-true _ _ y), initial_tables)) (λ n. rw n)

-- A SNAPSHOT of valid tables is short enough for the least buffer
pub snapshot_short : (t : List ℕ) → Words t → valid_cells t ≡ true → length (snapshot_of t) ≤ longest_snapshot
snapshot_short t words e = let r = tables_valid t (sym (valid_cells_lem t words) ∙ e) in rw (r.0, snapshot_of_lem (view t) r.1) (snapshot_longest (view t) r.1)
