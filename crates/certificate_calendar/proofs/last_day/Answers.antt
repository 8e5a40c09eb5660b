-- `last_day` meets its contract. Assumes nothing.
use mathlib.Core.Path.{sym}
use Rattle.certificate_calendar.specs.Dates.{last_day}
use Rattle.certificate_calendar.proofs.last_day.Goals as goal

pub returns-then-is_leap : goal.returns-then-is_leap
unfolding last_day
returns-then-is_leap c = rw (c.in-2.is, sym c.if-is_leap.ensures)

pub returns-else-is_leap : goal.returns-else-is_leap
unfolding last_day
returns-else-is_leap c = rw (c.in-2.is, sym c.if-is_leap.ensures)
