-- The filled front of the wake list.
use Prim.Native.Nat.{ℕ, ◌*◌, ◌≤◌}
use mathlib.Core.Path.{◌≡◌, sym, ap, ◌∙◌}
use mathlib.Core.List.{List, [], ◌∷◌}
use native.Mathlib.Omega.{arith}
use lib.ListN.{length, get_or, take}
use Rattle.model.specs.Calls.{wake_lent, Call}
use Rattle.model.specs.Waits.{Report}
use Rattle.model.proofs.Tables.{tables_wake, tables_room}
use Rattle.model.proofs.Reports.{records_length}
use Rattle.model.proofs.Cells.{overwrite_front}
use Rattle.model.specs.Steps.{Outcome, records, table_step, Seen, sees, seen, Handed, hands, handed}

-- THE FILLED FRONT: a call's reports stand at the front of the wake list
abbrev Filled : {Held : Type 0} → Outcome Held → Type 0
Filled o = (take (3 * length o.reports) o.lent.wake ≡ records o.reports) × (3 * length o.reports ≤ length o.lent.wake)

filled : (t : List ℕ) (c : Call) → Filled (table_step t c)
filled t c = let rs : List Report = (table_step t c).reports in let n : 3 * length rs ≡ length (records rs) = sym (records_length rs) in
    let l = tables_room t c in let r = overwrite_front (records rs) c.lent.wake l in let k = r.1 in rw (tables_wake t c, n) (r.0, rw k l)

module _ (t : List ℕ) (c : Call) {a x n : ℕ} {wake u : List ℕ} (e : seen (table_step t c) ≡ sees (a ∷ x ∷ 0 ∷ n ∷ []) (wake_lent wake) u) where
  pub front_room : 3 * n ≤ length wake
  front_room = let l = (filled t c).1 in let k : length (table_step t c).reports ≡ n = ap (λ (s : Seen). get_or s.numbers 3 0) e in
      let w : length (table_step t c).lent.wake ≡ length wake = ap (λ (s : Seen). length s.lent.wake) e in omega arith

  abbrev fronted : Seen → Handed
  fronted s = hands (get_or s.numbers 0 0 ∷ get_or s.numbers 1 0 ∷ get_or s.numbers 3 0 ∷ []) (take (3 * get_or s.numbers 3 0) s.lent.wake) s.tables

  pub handed_is : {front : List ℕ} → front ≡ take (3 * n) wake → handed (table_step t c) ≡ hands (a ∷ x ∷ n ∷ []) front u
  handed_is f = rw f (ap (λ (l : List ℕ). hands ((table_step t c).answer ∷ (table_step t c).first ∷ length (table_step t c).reports ∷ []) l (table_step t c).held) (sym (filled t c).0) ∙ ap fronted e)
