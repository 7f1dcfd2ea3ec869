use Prim.Native.Nat.{ℕ}
use mathlib.Core.Path.{refl, ◌∙◌}
use mathlib.Core.Bool.{Bool}
use lib.Dec.{ltb}
use Rattle.std.proofs.Common.{rules}
use Rattle.std.proofs.lemmas.Iterator.{YieldsList-from_range}
use Rattle.std.proofs.lemmas.Iterator.Consumers.{count_from_yields_List, YieldsList-from_filter}
use Rattle.model.specs.Sizes.{object_places}
use Rattle.cells.specs.Objects.{fields_at}
use Rattle.cells.specs.Snapshot.{object_total}
use Rattle.snapshot.proofs.Laws.{counted_is}
use Rattle.snapshot.proofs.object_total.Goals as goal

pub returns : goal.returns
unfolding object_total
returns c = let f : ℕ → Bool = λ p. ltb 0 (fields_at c.args.t.now p).kind in
    count_from_yields_List _ _ c.count.ensures.ran (YieldsList-from_filter _ f (YieldsList-from_range 0 object_places object_places c.filter.ensures.source refl) c.filter.ensures.closure (λ x b q k. search rules))
    ∙ counted_is f object_places
