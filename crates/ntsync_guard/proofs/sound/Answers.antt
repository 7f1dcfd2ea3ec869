use mathlib.Core.Path.{◌≡◌, sym, ◌∙◌}
use mathlib.Core.Bool.{true}
use Rattle.model.proofs.Logic.{not_true, not_false}
use Rattle.ntsync_guard.proofs.sound.Goals as goal

-- not left to the attribute: a test that is turned twice is proved too
pub invariant_of-result : goal.invariant_of-result
invariant_of-result c = let y : c.valid.result ≡ true = search (not_true, not_false) in record { valid = sym c.valid.ensures ∙ y }
