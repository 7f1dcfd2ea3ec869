use mathlib.Core.Path.{◌≡◌, ap, ◌∙◌}
use Prim.Native.Nat.{◌+◌, ◌-◌}
use native.Mathlib.Omega.{arith}
use lib.ListN.{replicate}
use borrow.Rule.Slice.PartMut.{mid_len}
use Rattle.model.specs.Layout.{wait_size}
use Rattle.cells.specs.Waits.{wait_cell, clear_wait}
use Rattle.tables.proofs.Laws.{filled}
use Rattle.tables.proofs.clear_wait.Goals as goal

pub returns : goal.returns
unfolding clear_wait
returns c = let t = c.args.t.now in let a = wait_cell c.args.p in let h = c.requires in let l = c.told-t in
    let e : (a + wait_size) - a ≡ wait_size = omega arith in
    filled t a wait_size c.fill.new.self (omega arith) (c.fill.ensures.after (λ y e. e) ∙ ap (λ n. replicate n 0) (mid_len a (a + wait_size) t (omega arith) ∙ e))
