use Rattle.std.proofs.Common.{◌≡◌, ◌+◌, arith}
use Rattle.model.specs.Sizes.{object_places}
use Rattle.cells.specs.Objects.{fields_at}
use Rattle.cells.specs.Snapshot.{fields_text, objects_text_below}
use Rattle.snapshot.proofs.Laws.{text_start, text_room, text_more}
use Rattle.snapshot.proofs.put_objects.Goals as goal

pub loop-p-init : goal.loop-p-init
loop-p-init c = text_start (λ i. fields_text (i + 1) (fields_at c.args.t.now i))

pub put_object-requires : goal.put_object-requires
unfolding objects_text_below
put_object-requires c = rw c.object_at.ensures (text_room (λ i. fields_text (i + 1) (fields_at c.args.t.now i)) c.loop-p.p c.loop-p.invariant object_places c.loop-p-test.true c.requires)

pub loop-p-preserved : goal.loop-p-preserved
loop-p-preserved c = text_more (λ i. fields_text (i + 1) (fields_at c.args.t.now i)) c.loop-p.p c.loop-p.invariant (rw c.object_at.ensures at c.put_object.ensures)

pub returns : goal.returns
unfolding objects_text_below
returns c = let e : c.loop-p.p ≡ object_places = omega arith in rw e at c.loop-p.invariant
