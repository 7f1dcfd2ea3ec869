use mathlib.Core.Path.{sym}
use Rattle.validity.proofs.Laws.{whole_short, whole_valid}
use Rattle.validity.proofs.valid.Goals as goal

pub returns-in_default : goal.returns-in_default
returns-in_default c = whole_short c.args.t.now c.in_default.ensures.cases

pub returns : goal.returns
returns c = let h = c.in-Some.ensures.cases in rw (sym h.same) (whole_valid c.in-Some.t.now (rw h.same h.long) c.next_ticket-next.ensures c.valid_objects-objects.ensures c.valid_waits-waits.ensures)
