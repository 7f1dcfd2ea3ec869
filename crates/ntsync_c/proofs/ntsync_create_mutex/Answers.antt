use Rattle.ntsync_c.proofs.ntsync_create_mutex.Goals as goal

pub returns : goal.returns
returns c = c.create_mutex.ensures
