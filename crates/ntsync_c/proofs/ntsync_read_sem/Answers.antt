use Rattle.ntsync_c.proofs.ntsync_read_sem.Goals as goal

pub returns : goal.returns
returns c = c.read_sem.ensures
