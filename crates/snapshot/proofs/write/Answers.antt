use Rattle.std.proofs.Common.{◌≡◌, ◌+◌, length, sym, ◌∙◌, rules}
use lib.Seq.{sets}
use Rattle.model.specs.Snapshot.{line}
use Rattle.cells.specs.Snapshot.{snapshot_of}
use Rattle.decimal.specs.Writing.{Appended}
use Rattle.snapshot.proofs.Laws.{opened, body_room, body_within, sum_due}
use Rattle.snapshot.proofs.write.Goals as goal

pub put_body-requires : goal.put_body-requires
put_body-requires c = let n = c.new-w.ensures in let room = opened n.unwritten n.front c.requires in body_room c.args.t.now n.front room

pub written-requires : goal.written-requires
written-requires c = let n = c.new-w.ensures in let room = opened n.unwritten n.front c.requires in body_within c.args.t.now n.front room c.put_body.ensures

pub line-requires : goal.line-requires
unfolding line
line-requires c = let n = c.new-w.ensures in let room = opened n.unwritten n.front c.requires in
    (sum_due c.args.t.now n.front room c.put_body.ensures (c.from-sum.ensures ∙ (c.byte_sum.ensures ∙ rw c.written.ensures))).room

pub returns : goal.returns
unfolding line
returns c = let n = c.new-w.ensures in let room = opened n.unwritten n.front c.requires in
    let a : Appended c.new-w.result c.line.new.self (snapshot_of c.args.t.now) = (sum_due c.args.t.now n.front room c.put_body.ensures (c.from-sum.ensures ∙ (c.byte_sum.ensures ∙ rw c.written.ensures))).done c.line.ensures in
    let end : c.line.new.self.buf.now ≡ sets c.args.buf.now 0 (snapshot_of c.args.t.now) = a.wrote.0 ∙ rw (n.unwritten, n.front) in
    let name = sym (a.same ∙ n.same_reference) in
    let at : c.line.new.self.at ≡ 0 + length (snapshot_of c.args.t.now) = a.wrote.1 ∙ rw n.front in
    (search rules, at)
