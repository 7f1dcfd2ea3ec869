use Rattle.ntsync_c.proofs.ntsync_snapshot.Goals as goal

pub returns : goal.returns
returns c = c.snapshot.ensures
