use Rattle.ntsync_c.proofs.ntsync_reset.Goals as goal

pub returns : goal.returns
returns c = c.reset.ensures
