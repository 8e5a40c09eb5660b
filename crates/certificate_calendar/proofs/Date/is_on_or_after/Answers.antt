-- `is_on_or_after` meets its contract. Assumes nothing.
use Rattle.std.proofs.Common.{arith}
use Rattle.certificate_calendar.specs.Inner.Days.{Day}
use Rattle.certificate_calendar.specs.Dates.{on_or_after}
use Rattle.certificate_calendar.proofs.DateLaws.{date-day}
use Rattle.certificate_calendar.proofs.Date.is_on_or_after.Goals as goal

pub returns : goal.returns
unfolding on_or_after
returns c =
    let a : Day c.args.self = date-day _ c.requires.a_value in
    let b : Day c.args.other = date-day _ c.requires.b_value in
    grind (arith, Rattle.std.proofs.lemmas.Grind.common_steps)
