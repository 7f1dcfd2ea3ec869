use Rattle.cells.specs.Validity.{occupied_at}
use lib.ListN.{get_or}
use Rattle.cells.specs.Fold.{all_below}
use mathlib.Core.Path.{◌≡◌}
use Rattle.validity.proofs.occupied_list.Given as goal

abbrev pub invariant-loop-h : goal.invariant-loop-h
invariant-loop-h l = l.ok ≡ all_below (λ k. occupied_at l.t (get_or l.list k 0)) l.h-index
