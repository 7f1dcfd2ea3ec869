use mathlib.Core.Path.{sym, ◌∙◌}
use Rattle.tables.proofs.Laws.{handle_low, named_at, named_none}
use native.Mathlib.Omega.{arith}
use Rattle.tables.proofs.named.Goals as goal

pub overflow_sub-h : goal.overflow_sub-h
overflow_sub-h c = let r = handle_low c.args.h (sym c.is_handle-handle.ensures ∙ c.if-handle.true) in omega (arith, r.0)

pub object_at-requires : goal.object_at-requires
object_at-requires c = let r = handle_low c.args.h (sym c.is_handle-handle.ensures ∙ c.if-handle.true) in omega (arith, r.0, r.1)

pub returns-then-handle : goal.returns-then-handle
returns-then-handle c = let a = c.args in c.object_at.ensures ∙ named_at a.t.now a.h c.is_handle-handle.ensures c.if-handle.true

pub returns : goal.returns
returns c = let a = c.args in named_none a.t.now a.h c.is_handle-handle.ensures c.if-handle.false
