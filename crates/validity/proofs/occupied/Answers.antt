use Rattle.kinds.specs.Values.{cells_of}
use Rattle.validity.proofs.Laws.{occupied_is}
use Rattle.validity.proofs.occupied.Goals as goal

pub returns : goal.returns
returns c = occupied_is c.args.t.now c.args.h (cells_of c.named.result) c.named.ensures
