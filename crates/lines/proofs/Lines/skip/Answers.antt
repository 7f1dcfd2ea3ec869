use Rattle.std.proofs.Common.{refl}
use Rattle.lines.proofs.Laws.{strip_none, strip_some}
use Rattle.lines.proofs.Lines.skip.Goals as goal

pub returns-in_default : goal.returns-in_default
returns-in_default c = (strip_none c.args.line.now c.args.self.now.rest.now c.in_default.ensures.cases, refl)

pub returns : goal.returns
returns c = let s = c.in-Some.ensures.cases in rw s.1 (strip_some c.args.line.now c.args.self.now.rest.now s.0)
