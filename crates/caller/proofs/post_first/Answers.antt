use Rattle.std.proofs.Common.{rules}
use Rattle.ntsync_fronts.proofs.Laws.{front_room}
use Rattle.caller.proofs.Laws.{first_is}
use Rattle.model.specs.Calls.{signal, post, wake_lent, asks}
use mathlib.Core.Path.{sym}
use Prim.Native.Nat.{◌*◌}
use lib.Seq.{length-take-le}
use Rattle.caller.proofs.post_first.Goals as goal

pub slice_bounds-first-end : goal.slice_bounds-first-end
slice_bounds-first-end c = let a = c.args in front_room a.tables.now (asks (signal (post a.add) a.handle) (wake_lent a.wake.now)) c.post-r.ensures

pub slice_bounds-first-end-2 : goal.slice_bounds-first-end-2
slice_bounds-first-end-2 c = let a = c.args in sym (length-take-le (3 * c.post-r.result.woken) _ (front_room a.tables.now (asks (signal (post a.add) a.handle) (wake_lent a.wake.now)) c.post-r.ensures))

pub returns-clause-first : goal.returns-clause-first
returns-clause-first c = let a = c.args in let e = first_is a.tables.now (asks (signal (post a.add) a.handle) (wake_lent a.wake.now)) c.post-r.ensures in search rules
