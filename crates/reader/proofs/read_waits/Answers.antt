use Rattle.reader.proofs.Laws.{on_err, none_queued, wait_bad, wait_queued, waits_queued}
use Rattle.std.proofs.Common.{arith}
use Rattle.reader.proofs.read_waits.Goals as goal

pub loop-p-init : goal.loop-p-init
loop-p-init c = none_queued c.args.n c.args.lines.now.rest.now c.args.t.now

pub returns-in_err-header : goal.returns-in_err-header
returns-in_err-header c = let l = c.loop-p in on_err _ _ c.from_residual.result c.from_residual.ensures (wait_bad c.args.n _ c.args.t.now l.t l.p _ l.rising l.last l.invariant _ c.loop-p-test.true c.in_err-header.ensures.0.0, c.in_err-header.ensures.0.1)

pub loop-p-preserved : goal.loop-p-preserved
loop-p-preserved c = let l = c.loop-p in let e = c.in_ok-header.ensures in wait_queued c.args.n _ c.args.t.now l.t l.p _ l.rising l.last l.invariant c.in_ok-header.header _ _ _ _ c.loop-p-test.true e.0 e.1.0 (omega (arith, c.read_wait.array_long, e.1.1)) c.put_header.ensures c.put_list.ensures

pub returns : goal.returns
returns c = let l = c.loop-p in waits_queued c.args.n _ c.args.t.now l.t l.p _ l.rising l.last l.invariant c.loop-p-test.false
