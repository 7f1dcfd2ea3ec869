use mathlib.Core.Path.{refl}
use Rattle.tables.proofs.is_handle.Goals as goal

pub returns : goal.returns
returns c = refl
