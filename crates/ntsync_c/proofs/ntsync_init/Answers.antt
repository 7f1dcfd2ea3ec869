use Rattle.ntsync_c.proofs.ntsync_init.Goals as goal

pub returns : goal.returns
returns c = c.init.ensures
