use Rattle.ntsync_c.proofs.ntsync_create_sem.Goals as goal

pub returns : goal.returns
returns c = c.create_sem.ensures
