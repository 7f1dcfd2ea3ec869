use Rattle.ntsync_c.proofs.ntsync_create_event.Goals as goal

pub returns : goal.returns
returns c = c.create_event.ensures
