use Rattle.ntsync_c.proofs.ntsync_read_event.Goals as goal

pub returns : goal.returns
returns c = c.read_event.ensures
