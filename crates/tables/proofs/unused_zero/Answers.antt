use Rattle.tables.proofs.Laws.{count_le, unused_zero_lem}
use native.Mathlib.Omega.{arith}
use Rattle.tables.proofs.unused_zero.Goals as goal

pub overflow_mul-from : goal.overflow_mul-from
overflow_mul-from c = let a = c.args in omega (arith, count_le a.t.now a.p)

pub overflow_add-from : goal.overflow_add-from
overflow_add-from c = let a = c.args in omega (arith, count_le a.t.now a.p)

pub overflow_add-from-2 : goal.overflow_add-from-2
overflow_add-from-2 c = let a = c.args in omega (arith, count_le a.t.now a.p)

pub overflow_add-from-3 : goal.overflow_add-from-3
overflow_add-from-3 c = let a = c.args in omega (arith, count_le a.t.now a.p)

pub overflow_sub-n : goal.overflow_sub-n
overflow_sub-n c = let a = c.args in omega (arith, count_le a.t.now a.p)

pub bits_of-requires : goal.bits_of-requires
bits_of-requires c = let a = c.args in omega (arith, count_le a.t.now a.p)

pub returns : goal.returns
returns c = unused_zero_lem c.args.t.now c.args.p c.count_at-n.ensures c.bits_of.ensures
