use mathlib.Core.Path.{refl, sym, ap, ◌∙◌}
use lib.ListN.{replicate}
use Rattle.model.specs.Layout.{table_length}
use Rattle.refine.proofs.Fold.{zeros}
use Rattle.tables.proofs.Laws.{made_is}
use Rattle.tables.proofs.make.Goals as goal

pub returns : goal.returns
returns c = let t = c.args.t.now in made_is t refl (c.fill.ensures.after (λ y e. e) ∙ ap (λ n. replicate n 0) c.told-t ∙ sym (zeros table_length t c.told-t))
