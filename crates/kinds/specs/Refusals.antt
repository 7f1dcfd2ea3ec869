-- The numbers of the refusals, each the meaning's (model's Basics).
use Rattle.std.specs.Prelude.{ℕ}
use Rattle.model.specs.Basics.{number, invalid, not_owner, overflow, no_room, tickets_spent, corrupt, busy, list_short, not_a_snapshot}
use Rattle.kinds.specs.declared.refusal.Refusal.{Refusal}
use Rattle.kinds.specs.declared.refusal.Refusal.TheVariants.{Invalid, NotOwner, Overflow, NoRoom, TicketsSpent, Corrupt, Busy, ListShort, NotASnapshot}

abbrev pub number_of : Refusal → ℕ
number_of Invalid = number invalid
number_of NotOwner = number not_owner
number_of Overflow = number overflow
number_of NoRoom = number no_room
number_of TicketsSpent = number tickets_spent
number_of Corrupt = number corrupt
number_of Busy = number busy
number_of ListShort = number list_short
number_of NotASnapshot = number not_a_snapshot
