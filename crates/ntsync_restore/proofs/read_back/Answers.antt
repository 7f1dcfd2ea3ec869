use Rattle.std.proofs.Common.{◌≡◌, sym, ap, ◌∙◌}
use Rattle.ntsync_restore.specs.Judged.{told_by}
use Rattle.ntsync_restore.specs.declared.Refused.TheVariants.{Corrupt}
use Rattle.ntsync_restore.proofs.Laws.{told_on, wrong_length, refused_whole, accepted_whole}
use Rattle.ntsync_restore.proofs.read_back.Goals as goal

pub returns-in_err-t : goal.returns-in_err-t
returns-in_err-t c = let t = c.args.tables.now in let n = rw c.in_err-t.ensures.ok_part at c.as_mut_array.ensures.cases in let e = rw c.in_err-t.ensures.ok_part at c.in_err-t.ensures.value in let corrupt : c.in_err-t.field-0.0 ≡ Corrupt = cc in
    wrong_length t c.args.text.now n ∙ told_on c.from_residual.result Corrupt t (rw corrupt at c.from_residual.ensures)

pub returns-in_err-judge : goal.returns-in_err-judge
returns-in_err-judge c = let t = c.args.tables.now in let r = c.from_residual-in_err-judge.result in let a = rw c.in_ok-t.ensures.ok_part at c.as_mut_array.ensures.cases in
    refused_whole t c.args.text.now a.long _ _ c.in_err-judge.ensures ∙ told_on r _ t c.from_residual-in_err-judge.ensures ∙ ap (λ u. told_by r u) (sym a.same)

pub returns : goal.returns
returns c = let a = rw c.in_ok-t.ensures.ok_part at c.as_mut_array.ensures.cases in rw c.copy.ensures (accepted_whole c.args.tables.now c.args.text.now a.long _ c.in_ok-judge.ensures)
