use Rattle.cells.specs.Waits.{ticket_at}
use lib.Dec.{eqb}
use Rattle.cells.specs.Fold.{all_below}
use mathlib.Core.Bool.{not}
use mathlib.Core.Path.{◌≡◌}
use Rattle.validity.proofs.alone.Given as goal

abbrev pub invariant-loop-q : goal.invariant-loop-q
invariant-loop-q l = l.ok ≡ all_below (λ k. not (eqb (ticket_at l.t k) l.ticket)) l.q
