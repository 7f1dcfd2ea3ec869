use Rattle.reader.proofs.Laws.{on_err, none_stored, object_bad, object_stored, objects_stored}
use Rattle.reader.proofs.read_objects.Goals as goal

pub loop-init : goal.loop-init
loop-init c = none_stored c.args.n c.args.lines.now.rest.now c.args.t.now

pub returns-in_err-handle : goal.returns-in_err-handle
returns-in_err-handle c = let l = c.loop in on_err _ _ c.from_residual.result c.from_residual.ensures (object_bad c.args.n _ c.args.t.now l.t l.counter _ l.rising l.last l.invariant _ c.loop-test.true c.in_err-handle.ensures.0.0, c.in_err-handle.ensures.0.1)

pub loop-preserved : goal.loop-preserved
loop-preserved c = let l = c.loop in let e = c.in_ok-handle.ensures in object_stored c.args.n _ c.args.t.now l.t l.counter _ l.rising l.last l.invariant c.in_ok-handle.handle c.in_ok-handle.object _ _ c.loop-test.true e.0 e.1 c.store.ensures

pub returns : goal.returns
returns c = let l = c.loop in objects_stored c.args.n _ c.args.t.now l.t l.counter _ l.rising l.last l.invariant c.loop-test.false
