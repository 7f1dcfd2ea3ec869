-- What a wait leaves, as the definitions of `cells` have it.
use Rattle.std.specs.Prelude.{ℕ, List, cond, Result, Ok, Err}
use Rattle.model.specs.Calls.{nothing_lent}
use Rattle.cells.specs.Calls.{Result as Left, answered, refused_with}
use Rattle.kinds.specs.declared.refusal.Refusal.{Refusal}
use Rattle.kinds.specs.Refusals.{number_of}
use Rattle.waits.specs.declared.Outcome.{Outcome}
use Rattle.waits.specs.declared.Outcome.TheVariants.{Served, TimedOut, Queued}

abbrev pub waited_by : Result Outcome Refusal → List ℕ → Left
waited_by (Ok (Served index abandoned)) t = answered (cond abandoned 4 0) index 0 t nothing_lent
waited_by (Ok TimedOut) t = answered 5 0 0 t nothing_lent
waited_by (Ok (Queued ticket)) t = answered 11 0 ticket t nothing_lent
waited_by (Err r) t = refused_with (number_of r) t nothing_lent
