use Rattle.ntsync_c.proofs.ntsync_unlock.Goals as goal

pub returns : goal.returns
returns c = c.unlock.ensures
