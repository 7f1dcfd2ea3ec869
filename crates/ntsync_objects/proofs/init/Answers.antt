use Rattle.ntsync_objects.proofs.Laws.{made, not_made}
use Rattle.ntsync_objects.proofs.init.Goals as goal

pub returns-in_default : goal.returns-in_default
returns-in_default c = rw c.from.ensures (not_made c.args.tables.now c.in_default.ensures.cases)

pub returns : goal.returns
returns c = let h = c.in-Some.ensures.cases in rw (c.make.ensures, h.same) (made c.args.tables.now h.long)
