use Rattle.cells.specs.Waits.{put_record}
use mathlib.Core.Path.{refl}
use Rattle.ending.proofs.put_record.Goals as goal

pub returns : goal.returns
unfolding put_record
returns c = refl
