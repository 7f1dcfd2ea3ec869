use borrow.Author.Rules.{rules}
use mathlib.Core.Path.{refl}
use Rattle.calls.specs.Values.{left_by, number, placed}
use Rattle.ntsync_objects.proofs.place.Goals as goal

pub returns : goal.returns
returns c = c.guarded.ensures (left_by number) (λ t. left_by placed c.args.new t) (λ e t. refl) (λ t r u q. search rules)
