use Rattle.kinds.proofs.Laws.{event_valid}
use Rattle.kinds.proofs.event.Event.valid.Goals as goal

pub returns : goal.returns
returns c = event_valid c.args.signaled c.args.manual
