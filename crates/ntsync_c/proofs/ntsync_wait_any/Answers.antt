use Rattle.ntsync_c.proofs.ntsync_wait_any.Goals as goal

pub returns : goal.returns
returns c = c.wait_any.ensures
