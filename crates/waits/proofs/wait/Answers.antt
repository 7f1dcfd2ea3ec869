use mathlib.Core.Path.{sym, ap}
use lib.ListN.{length}
use Rattle.model.specs.Calls.{nothing_lent}
use Rattle.waits.proofs.Laws.{wait_long, wait_bad, wait_acts}
use native.Mathlib.Omega.{arith}
use Rattle.waits.proofs.wait.Goals as goal

pub returns-then-n-gt-MAX_LISTED : goal.returns-then-n-gt-MAX_LISTED
returns-then-n-gt-MAX_LISTED c = let a = c.args in wait_long a.t.now a.terms a.list.now a.time nothing_lent a.pad c.if-n-gt-MAX_LISTED.true

pub returns-then-bad : goal.returns-then-bad
returns-then-bad c = let a = c.args in wait_bad a.t.now a.terms a.list.now a.time nothing_lent a.pad c.widen-wide.ensures c.bad_wait-bad.ensures c.if-bad.true

pub slice_bounds-list-end : goal.slice_bounds-list-end
slice_bounds-list-end c = sym (ap length c.widen-wide.ensures)

pub act-requires : goal.act-requires
act-requires c = omega (arith, ap length c.widen-wide.ensures)

pub returns : goal.returns
returns c = let a = c.args in wait_acts a.t.now a.terms a.list.now a.time nothing_lent a.pad c.widen-wide.ensures c.bad_wait-bad.ensures c.if-bad.false c.act.ensures
