use Rattle.std.proofs.Common.{◌≡◌, length, get_or, arith}
use Rattle.model.specs.Snapshot.{line}
use Rattle.cells.specs.Snapshot.{list_text_below}
use Rattle.snapshot.proofs.Laws.{text_start, text_room, text_more}
use Rattle.snapshot.proofs.put_list.Goals as goal

pub loop-h-init : goal.loop-h-init
loop-h-init c = text_start (λ k. line "obj=" (get_or c.args.list.now k 0))

pub line-requires : goal.line-requires
unfolding line list_text_below
line-requires c = text_room (λ k. line "obj=" (get_or c.args.list.now k 0)) c.loop-h.h-index c.loop-h.invariant (length c.args.list.now) c.loop-h-test.true c.requires

pub loop-h-preserved : goal.loop-h-preserved
unfolding line
loop-h-preserved c = text_more (λ k. line "obj=" (get_or c.args.list.now k 0)) c.loop-h.h-index c.loop-h.invariant c.line.ensures

pub returns : goal.returns
unfolding list_text_below
returns c = let e : c.loop-h.h-index ≡ length c.args.list.now = omega arith in rw e at c.loop-h.invariant
