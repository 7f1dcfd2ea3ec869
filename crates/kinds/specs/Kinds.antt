-- The kinds of object and the numbers of their cells.
use Rattle.std.specs.Prelude.{◌≡◌, ◌≢◌, ℕ, Result, MatchResult}
use Rattle.kinds.specs.declared.kind.Kind.{Kind}
use Rattle.kinds.specs.declared.kind.Kind.TheVariants.{Semaphore, Mutex, Event}
use Rattle.kinds.specs.declared.refusal.Refusal.{Refusal}
use Rattle.kinds.specs.declared.refusal.Refusal.TheVariants.{Invalid}

abbrev pub cell_of : Kind → ℕ
cell_of Semaphore = 1
cell_of Mutex = 2
cell_of Event = 3

-- no kind has this number
pub record NoKind (cell : ℕ) : Type 0 where
  pub semaphore : cell ≢ 1
  pub mutex : cell ≢ 2
  pub event : cell ≢ 3

-- the kind whose number this is, or Invalid exactly where it is no kind's
abbrev pub NamesKind : ℕ → Result Kind Refusal → Type 0
NamesKind cell r = MatchResult r (λ kind. cell_of kind ≡ cell) (λ e. (e ≡ Invalid) × NoKind cell)
