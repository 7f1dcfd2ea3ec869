use Prim.Native.Nat.{◌+◌}
use native.Mathlib.Omega.{arith}
use Rattle.cells.specs.Calls.{put_list}
use Rattle.cells.specs.Waits.{wait_cell}
use Rattle.model.specs.Layout.{header_size}
use Rattle.tables.proofs.Laws.{stored}
use Rattle.tables.proofs.put_list.Goals as goal

pub returns : goal.returns
unfolding put_list
returns c = let a = c.args in let h = c.requires in let l = c.told-t in
    stored a.t.now (wait_cell a.p + header_size) c.copy_from_slice.new.self a.list.now (omega arith) c.copy_from_slice.ensures.after
