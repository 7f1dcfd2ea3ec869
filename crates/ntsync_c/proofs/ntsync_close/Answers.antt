use Rattle.ntsync_c.proofs.ntsync_close.Goals as goal

pub returns : goal.returns
returns c = c.close.ensures
