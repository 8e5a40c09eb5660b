-- `total_after` meets its contract. Assumes nothing.
use mathlib.Core.Path.{◌∙◌}
use Rattle.book_totals.specs.KeptTotals.{value_of_total, total_after}
use Rattle.book_totals.proofs.total_after.Goals as goal

pub returns-then-not-sums_place : goal.returns-then-not-sums_place
unfolding total_after
returns-then-not-sums_place c = rw (← c.sums_place.ensures, c.if-not-sums_place.true)

pub returns : goal.returns
unfolding total_after value_of_total
returns c =
    c.moved.ensures ∙ rw (← c.sums_place.ensures, c.if-not-sums_place.false)
