use Rattle.cells.specs.Waits.{ticket_at, mode_at, owner_at, clock_at, timeout_at, alert_at}
use borrow.Author.Rules.{rules}
use Rattle.tables.proofs.header_at.Goals as goal

pub returns-clause-ticket : goal.returns-clause-ticket
unfolding ticket_at
returns-clause-ticket c = search rules

pub returns-clause-mode : goal.returns-clause-mode
unfolding mode_at
returns-clause-mode c = search rules

pub returns-clause-owner : goal.returns-clause-owner
unfolding owner_at
returns-clause-owner c = search rules

pub returns-clause-clock : goal.returns-clause-clock
unfolding clock_at
returns-clause-clock c = search rules

pub returns-clause-timeout : goal.returns-clause-timeout
unfolding timeout_at
returns-clause-timeout c = search rules

pub returns-clause-alert : goal.returns-clause-alert
unfolding alert_at
returns-clause-alert c = search rules
