use Rattle.tables.proofs.Laws.{fields_at_lem}
use Rattle.tables.proofs.object_at.Goals as goal

pub returns : goal.returns
returns c = fields_at_lem c.args.t.now c.args.p
