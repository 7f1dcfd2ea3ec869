-- What an attempt leaves, as the definitions of `cells` have it.
use Rattle.std.specs.Prelude.{ℕ, List, Option, Some, None}
use Rattle.cells.specs.Attempt.{Tried, missed, took}
use Rattle.attempt.specs.declared.Served.{Served}

abbrev pub tried_by : Option Served → List ℕ → Tried
tried_by (Some r) t = took r.abandoned r.index t
tried_by None t = missed t
