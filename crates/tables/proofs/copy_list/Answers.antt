use mathlib.Core.Path.{sym, ap, ◌∙◌}
use lib.ListN.{length}
use lib.Seq.{length-take-le}
use Rattle.refine.proofs.Validity.{list_length}
use Rattle.tables.proofs.Laws.{list_short, front_length, front_taken}
use Rattle.tables.proofs.copy_list.Goals as goal

pub slice_bounds-copy-end : goal.slice_bounds-copy-end
slice_bounds-copy-end c = let a = c.args in list_short a.t.now a.p c.told-t c.requires c.list_of-list.ensures

pub slice_bounds-copy_from_slice-end : goal.slice_bounds-copy_from_slice-end
slice_bounds-copy_from_slice-end c = let a = c.args in sym (length-take-le _ _ (list_short a.t.now a.p c.told-t c.requires c.list_of-list.ensures))

pub copy_from_slice-requires : goal.copy_from_slice-requires
copy_from_slice-requires c = let a = c.args in length-take-le _ _ (list_short a.t.now a.p c.told-t c.requires c.list_of-list.ensures)

pub returns : goal.returns
returns c = let a = c.args in let list = c.list_of-list.result.now in let h = c.requires in let l = c.told-t in let q = c.list_of-list.ensures in
    let n = ap length q ∙ list_length a.t.now l a.p h in
    (front_length list _ _ c.copy_from_slice.ensures.after (list_short a.t.now a.p l h q), front_taken list _ _ _ c.copy_from_slice.ensures.after (sym n) ∙ q)
