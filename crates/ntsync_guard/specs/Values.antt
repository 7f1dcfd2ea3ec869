-- The lent tables, as the tests before a call's work find them.
use Rattle.std.specs.Prelude.{◌≡◌, ℕ, List, false, Option, Result, MatchResult}
use Rattle.std.specs.Borrow.{LendsIf, MutBor, Fml, Array, u64}
use Rattle.cells.specs.Validity.{valid_cells}
use Rattle.kinds.specs.declared.refusal.Refusal.{Refusal}
use Rattle.kinds.specs.declared.refusal.Refusal.TheVariants.{Corrupt}
use Rattle.validity.specs.declared.sound.Sound.{Sound}

-- t were found valid, and are lent as such, or corrupt
abbrev pub FoundSound : List ℕ → Result Sound Refusal → Type 0
FoundSound t r = MatchResult r (λ x. x.cells.now ≡ t) (λ e. (e ≡ Corrupt) × (valid_cells t ≡ false))

-- t are lent as an array r, and end as what is left behind it; where there is none, they stay
abbrev pub LendsCells : MutBor (List ℕ) → Option (MutBor (List ℕ)) → Fml
LendsCells t r = LendsIf (Array u64 0) (Array u64 0) t r (λ ws. ws) t.now
