-- `factors::yield_in` meets its contract. Assumes nothing.
use borrow.Author.Tests.{lt-ltb, le-ltb}
use Rattle.intangible_numbers.specs.Sheets.{yield_in}
use Rattle.intangible_numbers.proofs.factors.yield_in.Goals as goal

pub returns-then-month-lt-SHEET_MONTHS : goal.returns-then-month-lt-SHEET_MONTHS
unfolding yield_in
returns-then-month-lt-SHEET_MONTHS c = let p = c.requires in (rw (lt-ltb _ _ c.if-month-lt-SHEET_MONTHS.true), p.0 _)

pub returns-else-month-lt-SHEET_MONTHS : goal.returns-else-month-lt-SHEET_MONTHS
unfolding yield_in
returns-else-month-lt-SHEET_MONTHS c = let p = c.requires in (rw (le-ltb _ _ c.if-month-lt-SHEET_MONTHS.false), p.1 _)
