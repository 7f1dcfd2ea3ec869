use mathlib.Core.Path.{sym, ◌∙◌}
use Rattle.ntsync_restore.proofs.restore.Goals as goal

pub returns : goal.returns
returns c = c.read_back.ensures ∙ sym (c.from.ensures _)
