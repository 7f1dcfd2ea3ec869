use Rattle.validity.proofs.Laws.{names_valid}
use Rattle.validity.proofs.valid_names.Goals as goal

pub returns : goal.returns
returns c = let a = c.args in names_valid a.t.now a.p c.header_at.ensures.alert c.header_at.ensures.mode c.list_of-list.ensures c.unused_zero-unused.ensures c.proper_alert-alert.ensures c.proper_list-proper.ensures
