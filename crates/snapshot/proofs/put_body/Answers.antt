use Rattle.std.proofs.Common.{sym}
use Rattle.model.specs.Snapshot.{line}
use Rattle.decimal.proofs.Laws.{due_all, due_first, due_then}
use Rattle.snapshot.proofs.Laws.{snapshot_lines}
use Rattle.snapshot.proofs.put_body.Goals as goal

pub line-requires : goal.line-requires
unfolding line
line-requires c = let e = sym (snapshot_lines c.args.t.now c.next_ticket-next.ensures c.object_total-objects.ensures c.wait_total-waits.ensures) in
    due_first _ _ (due_all (rw e at c.requires))

pub line-requires-2 : goal.line-requires-2
unfolding line
line-requires-2 c = let e = sym (snapshot_lines c.args.t.now c.next_ticket-next.ensures c.object_total-objects.ensures c.wait_total-waits.ensures) in
    let d1 = due_then _ _ (due_all (rw e at c.requires)) c.line.ensures in due_first _ _ d1

pub put_objects-requires : goal.put_objects-requires
unfolding line
put_objects-requires c = let e = sym (snapshot_lines c.args.t.now c.next_ticket-next.ensures c.object_total-objects.ensures c.wait_total-waits.ensures) in
    let d1 = due_then _ _ (due_all (rw e at c.requires)) c.line.ensures in let d2 = due_then _ _ d1 c.line-2.ensures in due_first _ _ d2

pub line-requires-3 : goal.line-requires-3
unfolding line
line-requires-3 c = let e = sym (snapshot_lines c.args.t.now c.next_ticket-next.ensures c.object_total-objects.ensures c.wait_total-waits.ensures) in
    let d1 = due_then _ _ (due_all (rw e at c.requires)) c.line.ensures in let d2 = due_then _ _ d1 c.line-2.ensures in let d3 = due_then _ _ d2 c.put_objects.ensures in due_first _ _ d3

pub put_waits-requires : goal.put_waits-requires
unfolding line
put_waits-requires c = let e = sym (snapshot_lines c.args.t.now c.next_ticket-next.ensures c.object_total-objects.ensures c.wait_total-waits.ensures) in
    let d1 = due_then _ _ (due_all (rw e at c.requires)) c.line.ensures in let d2 = due_then _ _ d1 c.line-2.ensures in let d3 = due_then _ _ d2 c.put_objects.ensures in let d4 = due_then _ _ d3 c.line-3.ensures in d4.room

pub returns : goal.returns
unfolding line
returns c = let e = sym (snapshot_lines c.args.t.now c.next_ticket-next.ensures c.object_total-objects.ensures c.wait_total-waits.ensures) in
    let d1 = due_then _ _ (due_all (rw e at c.requires)) c.line.ensures in let d2 = due_then _ _ d1 c.line-2.ensures in let d3 = due_then _ _ d2 c.put_objects.ensures in let d4 = due_then _ _ d3 c.line-3.ensures in rw e (d4.done c.put_waits.ensures)
