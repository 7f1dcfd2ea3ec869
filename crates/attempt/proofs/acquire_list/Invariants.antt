use Rattle.cells.specs.Attempt.{acquire_first, abandoned_first}
use Rattle.model.specs.Layout.{table_length}
use lib.ListN.{length}
use mathlib.Core.Path.{◌≡◌}
use Rattle.attempt.proofs.acquire_list.Given as goal

abbrev pub invariant-loop-h : goal.invariant-loop-h
invariant-loop-h l = (length l.t ≡ table_length) × (l.t ≡ acquire_first l.initial.t l.asking l.list l.h-index) × (l.dead ≡ abandoned_first l.initial.t l.asking l.list l.h-index)
