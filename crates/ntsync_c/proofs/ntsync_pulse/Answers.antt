use Rattle.ntsync_c.proofs.ntsync_pulse.Goals as goal

pub returns : goal.returns
returns c = c.pulse.ensures
