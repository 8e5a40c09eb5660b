-- `months_to` meets its contract: where the first date's day falls short, the month after the second date's is the first that is reached.
-- Assumes nothing.
use native.Mathlib.Omega.{arith}
use Rattle.certificate_calendar.specs.Inner.Days.{Day}
use Rattle.certificate_calendar.proofs.DateLaws.{date-day}
use Rattle.certificate_calendar.proofs.MonthLaws.{reach, months-are}
use Rattle.certificate_calendar.proofs.Date.months_to.Goals as goal

pub month_index-requires : goal.month_index-requires
month_index-requires c = date-day _ c.requires.to_value

pub month_index-requires-2 : goal.month_index-requires-2
month_index-requires-2 c = date-day _ c.requires.from_value

pub overflow_add-end : goal.overflow_add-end
overflow_add-end c = let day : Day c.args.other = date-day _ c.requires.to_value in grind (arith, c.month_index.ensures, c.from.ensures)

pub returns : goal.returns
returns c =
    let begun : Day c.args.self = date-day _ c.requires.from_value in
    let ended : Day c.args.other = date-day _ c.requires.to_value in
    let apart = months-are c.args.self c.args.other begun ended _ (reach c.args.self c.args.other begun ended) in
    cc
