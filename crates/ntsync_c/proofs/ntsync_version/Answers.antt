use mathlib.Core.Path.{refl}
use Rattle.ntsync_c.proofs.ntsync_version.Goals as goal

pub returns : goal.returns
returns c = refl
