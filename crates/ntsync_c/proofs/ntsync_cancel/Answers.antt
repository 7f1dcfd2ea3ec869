use Rattle.ntsync_c.proofs.ntsync_cancel.Goals as goal

pub returns : goal.returns
returns c = c.cancel.ensures
