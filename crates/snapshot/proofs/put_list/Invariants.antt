use Rattle.std.proofs.Common.{get_or}
use Rattle.model.specs.Snapshot.{line}
use Rattle.decimal.specs.Writing.{Appended}
use Rattle.snapshot.proofs.Laws.{text_below}
use Rattle.snapshot.proofs.put_list.Given as goal

abbrev pub invariant-loop-h : goal.invariant-loop-h
invariant-loop-h l = Appended l.initial.w l.w (text_below (λ k. line "obj=" (get_or l.list k 0)) l.h-index)
