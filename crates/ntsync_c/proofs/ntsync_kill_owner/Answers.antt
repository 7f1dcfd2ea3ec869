use Rattle.ntsync_c.proofs.ntsync_kill_owner.Goals as goal

pub returns : goal.returns
returns c = c.kill_owner.ensures
