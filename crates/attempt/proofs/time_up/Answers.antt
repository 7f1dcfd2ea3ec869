use mathlib.Core.Path.{refl}
use Rattle.attempt.proofs.time_up.Goals as goal

pub returns : goal.returns
returns c = refl
