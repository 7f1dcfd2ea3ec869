use Rattle.validity.proofs.Laws.{header_valid}
use Rattle.validity.proofs.valid_header.Goals as goal

pub returns : goal.returns
returns c = let a = c.args in header_valid a.t.now a.p c.header_at-w.ensures.ticket c.next_ticket-next.ensures c.alone-alone.ensures c.header_at-w.ensures.mode c.header_at-w.ensures.owner c.header_at-w.ensures.clock c.header_at-w.ensures.listed
