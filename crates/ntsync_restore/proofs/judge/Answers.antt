use Rattle.ntsync_restore.proofs.Laws.{not_read, not_accepted, read_back}
use Rattle.ntsync_restore.proofs.judge.Goals as goal

pub returns-in-Ok : goal.returns-in-Ok
returns-in-Ok c = read_back c.args.text.now c.read_snapshot.new.t c.in-Ok.in_order (rw c.requires at c.in-Ok.ensures) c.acceptable.ensures c.if-acceptable.true

pub returns-in-Ok-2 : goal.returns-in-Ok-2
returns-in-Ok-2 c = not_accepted c.args.text.now c.read_snapshot.new.t c.in-Ok.in_order (rw c.requires at c.in-Ok.ensures) c.acceptable.ensures c.if-acceptable.false

pub returns-in-Err : goal.returns-in-Err
returns-in-Err c = not_read c.args.text.now c.in-Err.line.from.now c.read_snapshot.new.t c.in-Err.ensures
