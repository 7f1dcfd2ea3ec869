use Rattle.ntsync_c.proofs.ntsync_wait_all.Goals as goal

pub returns : goal.returns
returns c = c.wait_all.ensures
