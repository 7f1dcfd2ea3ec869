use Rattle.ntsync_c.proofs.ntsync_post.Goals as goal

pub returns : goal.returns
returns c = c.post.ensures
