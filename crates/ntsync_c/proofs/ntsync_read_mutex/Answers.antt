use Rattle.ntsync_c.proofs.ntsync_read_mutex.Goals as goal

pub returns : goal.returns
returns c = c.read_mutex.ensures
