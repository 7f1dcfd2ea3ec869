use mathlib.Core.Path.{sym, ◌∙◌}
use Rattle.tables.proofs.Laws.{handle_low, store_at, store_none}
use Rattle.kinds.specs.Values.{cells_of}
use native.Mathlib.Omega.{arith}
use Rattle.tables.proofs.store.Goals as goal

pub overflow_sub-h : goal.overflow_sub-h
overflow_sub-h c = let r = handle_low c.args.h (sym c.is_handle-handle.ensures ∙ c.if-handle.true) in omega (arith, r.0)

pub put_object-requires : goal.put_object-requires
put_object-requires c = let r = handle_low c.args.h (sym c.is_handle-handle.ensures ∙ c.if-handle.true) in omega (arith, r.0, r.1)

pub returns-then-handle : goal.returns-then-handle
returns-then-handle c = let a = c.args in c.put_object.ensures ∙ store_at a.t.now a.h c.is_handle-handle.ensures (cells_of a.o) c.if-handle.true

pub returns-else-handle : goal.returns-else-handle
returns-else-handle c = let a = c.args in store_none a.t.now a.h c.is_handle-handle.ensures (cells_of a.o) c.if-handle.false
