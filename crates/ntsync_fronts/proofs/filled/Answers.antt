use Rattle.model.specs.Calls.{asks, wake_lent}
use Rattle.ntsync_fronts.proofs.Laws.{front_room, handed_is}
use Rattle.ntsync_fronts.proofs.filled.Goals as goal

pub front-requires : goal.front-requires
front-requires g c = let a = c.args in let k = c.requires.answers in front_room a.tables.now (asks k.0 (wake_lent a.wake.now)) (k.1 _ _ _ _ _ c.call-r.ensures)

pub returns-clause-filled : goal.returns-clause-filled
returns-clause-filled g c = λ op h. let a = c.args in
    rw (c.from.ensures, c.from-2.ensures, c.from-3.ensures) (handed_is a.tables.now (asks op (wake_lent a.wake.now)) (h _ _ _ _ _ c.call-r.ensures) c.front.ensures.0)
