use Rattle.ntsync_snapshot.proofs.Laws.{snapshot_low, snapshot_room, snapshot_refused, snapshot_done}
use native.Mathlib.Omega.{arith}
use Rattle.ntsync_snapshot.proofs.write.Goals as goal

pub returns-then-buffer-lt-SNAPSHOT_BUFFER : goal.returns-then-buffer-lt-SNAPSHOT_BUFFER
returns-then-buffer-lt-SNAPSHOT_BUFFER c = let a = c.args in snapshot_refused a.tables.now a.buffer.now (λ i. omega (arith, c.type_inv.tables i)) (rw c.in_ok-found.ensures at c.in_ok-found.found.valid) c.if-buffer-lt-SNAPSHOT_BUFFER.true

pub write-requires : goal.write-requires
write-requires c = let a = c.args in rw c.in_ok-found.ensures (snapshot_room a.tables.now a.buffer.now (λ i. omega (arith, c.type_inv.tables i)) (rw c.in_ok-found.ensures at c.in_ok-found.found.valid) c.if-buffer-lt-SNAPSHOT_BUFFER.false)

pub overflow_cast-result : goal.overflow_cast-result
overflow_cast-result c = let a = c.args in let w = rw c.in_ok-found.ensures at c.write.ensures in omega (arith, w.1, snapshot_low a.tables.now a.buffer.now (λ i. omega (arith, c.type_inv.tables i)) (rw c.in_ok-found.ensures at c.in_ok-found.found.valid))

pub returns : goal.returns
returns c = let a = c.args in snapshot_done a.tables.now a.buffer.now (λ i. omega (arith, c.type_inv.tables i)) (rw c.in_ok-found.ensures at c.in_ok-found.found.valid) c.if-buffer-lt-SNAPSHOT_BUFFER.false (rw c.in_ok-found.ensures at c.write.ensures)
