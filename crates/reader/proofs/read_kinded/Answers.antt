use Rattle.std.proofs.Common.{sym}
use Rattle.model.specs.Reading.{◌>>=◌, word_line}
use Rattle.reader.proofs.read_kinded.Goals as goal

pub returns-then-skip : goal.returns-then-skip
unfolding ◌>>=◌ word_line
returns-then-skip c = rw c.if-skip.ensures c.read_semaphore.ensures

pub returns-then-skip-2 : goal.returns-then-skip-2
unfolding ◌>>=◌ word_line
returns-then-skip-2 c = let n = c.if-skip.ensures in let s = rw n.1 at c.if-skip-2.ensures in rw (n.0, s) c.read_mutex.ensures

pub returns-then-skip-3 : goal.returns-then-skip-3
unfolding ◌>>=◌ word_line
returns-then-skip-3 c = let n = c.if-skip.ensures in let m = rw n.1 at c.if-skip-2.ensures in let s = rw m.1 at c.if-skip-3.ensures in rw (n.0, m.0, s) c.read_event.ensures

pub returns-else-skip-3 : goal.returns-else-skip-3
unfolding ◌>>=◌ word_line
returns-else-skip-3 c = let n = c.if-skip.ensures in let m = rw n.1 at c.if-skip-2.ensures in let k = rw m.1 at c.if-skip-3.ensures in ((rw (n.0, m.0, k.0, c.not_due.ensures, k.1), sym c.not_due.ensures), tt)
