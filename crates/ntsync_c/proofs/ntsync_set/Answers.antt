use Rattle.ntsync_c.proofs.ntsync_set.Goals as goal

pub returns : goal.returns
returns c = c.set.ensures
