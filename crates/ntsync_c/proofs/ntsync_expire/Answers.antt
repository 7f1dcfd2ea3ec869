use Rattle.ntsync_c.proofs.ntsync_expire.Goals as goal

pub returns : goal.returns
returns c = c.expire.ensures
