-- The numbers of the answers that are no refusals, each the meaning's (model's Basics).
use Rattle.std.specs.Prelude.{ℕ}
use Rattle.model.specs.Basics.{number, done, owner_dead, timed_out, interrupted, queued}
use Rattle.kinds.specs.declared.answer.Answer.{Answer}
use Rattle.kinds.specs.declared.answer.Answer.TheVariants.{Done, OwnerDead, TimedOut, Interrupted, Queued}

abbrev pub answer_number : Answer → ℕ
answer_number Done = number done
answer_number OwnerDead = number owner_dead
answer_number TimedOut = number timed_out
answer_number Interrupted = number interrupted
answer_number Queued = number queued
