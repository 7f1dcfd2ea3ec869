use Rattle.std.proofs.Common.{sym}
use Rattle.model.specs.Snapshot.{line}
use Rattle.cells.specs.Snapshot.{wait_lines}
use Rattle.decimal.proofs.Laws.{due_all, due_first, due_then}
use Rattle.snapshot.proofs.Laws.{wait_lines_lem}
use Rattle.snapshot.proofs.put_wait.Goals as goal

pub line-requires : goal.line-requires
unfolding line wait_lines
line-requires c = let e = sym (wait_lines_lem c.args.t.now c.args.p c.header_at-header.ensures.ticket c.header_at-header.ensures.mode c.header_at-header.ensures.owner c.header_at-header.ensures.clock c.header_at-header.ensures.timeout c.header_at-header.ensures.alert c.list_of-list.ensures) in
    due_first _ _ (due_all (rw e at c.requires.room))

pub put_word-requires : goal.put_word-requires
unfolding line wait_lines
put_word-requires c = let e = sym (wait_lines_lem c.args.t.now c.args.p c.header_at-header.ensures.ticket c.header_at-header.ensures.mode c.header_at-header.ensures.owner c.header_at-header.ensures.clock c.header_at-header.ensures.timeout c.header_at-header.ensures.alert c.list_of-list.ensures) in
    let d1 = due_then _ _ (due_all (rw e at c.requires.room)) c.line.ensures in due_first _ _ d1

pub line-requires-2 : goal.line-requires-2
unfolding line wait_lines
line-requires-2 c = let e = sym (wait_lines_lem c.args.t.now c.args.p c.header_at-header.ensures.ticket c.header_at-header.ensures.mode c.header_at-header.ensures.owner c.header_at-header.ensures.clock c.header_at-header.ensures.timeout c.header_at-header.ensures.alert c.list_of-list.ensures) in
    let d1 = due_then _ _ (due_all (rw e at c.requires.room)) c.line.ensures in let d2 = due_then _ _ d1 c.put_word.ensures in due_first _ _ d2

pub put_word-requires-2 : goal.put_word-requires-2
unfolding line wait_lines
put_word-requires-2 c = let e = sym (wait_lines_lem c.args.t.now c.args.p c.header_at-header.ensures.ticket c.header_at-header.ensures.mode c.header_at-header.ensures.owner c.header_at-header.ensures.clock c.header_at-header.ensures.timeout c.header_at-header.ensures.alert c.list_of-list.ensures) in
    let d1 = due_then _ _ (due_all (rw e at c.requires.room)) c.line.ensures in let d2 = due_then _ _ d1 c.put_word.ensures in let d3 = due_then _ _ d2 c.line-2.ensures in due_first _ _ d3

pub line-requires-3 : goal.line-requires-3
unfolding line wait_lines
line-requires-3 c = let e = sym (wait_lines_lem c.args.t.now c.args.p c.header_at-header.ensures.ticket c.header_at-header.ensures.mode c.header_at-header.ensures.owner c.header_at-header.ensures.clock c.header_at-header.ensures.timeout c.header_at-header.ensures.alert c.list_of-list.ensures) in
    let d1 = due_then _ _ (due_all (rw e at c.requires.room)) c.line.ensures in let d2 = due_then _ _ d1 c.put_word.ensures in let d3 = due_then _ _ d2 c.line-2.ensures in let d4 = due_then _ _ d3 c.put_word-2.ensures in due_first _ _ d4

pub line-requires-4 : goal.line-requires-4
unfolding line wait_lines
line-requires-4 c = let e = sym (wait_lines_lem c.args.t.now c.args.p c.header_at-header.ensures.ticket c.header_at-header.ensures.mode c.header_at-header.ensures.owner c.header_at-header.ensures.clock c.header_at-header.ensures.timeout c.header_at-header.ensures.alert c.list_of-list.ensures) in
    let d1 = due_then _ _ (due_all (rw e at c.requires.room)) c.line.ensures in let d2 = due_then _ _ d1 c.put_word.ensures in let d3 = due_then _ _ d2 c.line-2.ensures in let d4 = due_then _ _ d3 c.put_word-2.ensures in let d5 = due_then _ _ d4 c.line-3.ensures in due_first _ _ d5

pub line-requires-5 : goal.line-requires-5
unfolding line wait_lines
line-requires-5 c = let e = sym (wait_lines_lem c.args.t.now c.args.p c.header_at-header.ensures.ticket c.header_at-header.ensures.mode c.header_at-header.ensures.owner c.header_at-header.ensures.clock c.header_at-header.ensures.timeout c.header_at-header.ensures.alert c.list_of-list.ensures) in
    let d1 = due_then _ _ (due_all (rw e at c.requires.room)) c.line.ensures in let d2 = due_then _ _ d1 c.put_word.ensures in let d3 = due_then _ _ d2 c.line-2.ensures in let d4 = due_then _ _ d3 c.put_word-2.ensures in let d5 = due_then _ _ d4 c.line-3.ensures in let d6 = due_then _ _ d5 c.line-4.ensures in due_first _ _ d6

pub put_list-requires : goal.put_list-requires
unfolding line wait_lines
put_list-requires c = let e = sym (wait_lines_lem c.args.t.now c.args.p c.header_at-header.ensures.ticket c.header_at-header.ensures.mode c.header_at-header.ensures.owner c.header_at-header.ensures.clock c.header_at-header.ensures.timeout c.header_at-header.ensures.alert c.list_of-list.ensures) in
    let d1 = due_then _ _ (due_all (rw e at c.requires.room)) c.line.ensures in let d2 = due_then _ _ d1 c.put_word.ensures in let d3 = due_then _ _ d2 c.line-2.ensures in let d4 = due_then _ _ d3 c.put_word-2.ensures in let d5 = due_then _ _ d4 c.line-3.ensures in let d6 = due_then _ _ d5 c.line-4.ensures in let d7 = due_then _ _ d6 c.line-5.ensures in d7.room

pub returns : goal.returns
unfolding line wait_lines
returns c = let e = sym (wait_lines_lem c.args.t.now c.args.p c.header_at-header.ensures.ticket c.header_at-header.ensures.mode c.header_at-header.ensures.owner c.header_at-header.ensures.clock c.header_at-header.ensures.timeout c.header_at-header.ensures.alert c.list_of-list.ensures) in
    let d1 = due_then _ _ (due_all (rw e at c.requires.room)) c.line.ensures in let d2 = due_then _ _ d1 c.put_word.ensures in let d3 = due_then _ _ d2 c.line-2.ensures in let d4 = due_then _ _ d3 c.put_word-2.ensures in let d5 = due_then _ _ d4 c.line-3.ensures in let d6 = due_then _ _ d5 c.line-4.ensures in let d7 = due_then _ _ d6 c.line-5.ensures in rw e (d7.done c.put_list.ensures)
