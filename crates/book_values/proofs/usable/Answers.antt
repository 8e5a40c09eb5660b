-- `usable` meets its contract: the tests in their order. Assumes nothing.
use Rattle.book_values.specs.Sheets.{none_above, none_zero, sheets_usable}
use Rattle.book_values.proofs.usable.Goals as goal

pub returns-then-some_above : goal.returns-then-some_above
unfolding sheets_usable none_above
returns-then-some_above c = rw (← c.some_above.ensures, c.if-some_above.true)

pub returns-then-not-tiers_usable : goal.returns-then-not-tiers_usable
unfolding sheets_usable none_above
returns-then-not-tiers_usable c = rw (← c.some_above.ensures, c.if-some_above.false, ← c.tiers_usable.ensures, c.if-not-tiers_usable.true)

-- the rates and the tiers pass, and a lower factor is above par
pub returns-then-above_par : goal.returns-then-above_par
unfolding sheets_usable none_above
returns-then-above_par c =
    rw (
      ← c.some_above.ensures,
      c.if-some_above.false,
      ← c.tiers_usable.ensures,
      c.if-not-tiers_usable.false,
      ← c.above_par.ensures,
      c.if-above_par.true,
    )

-- these and the lower factors pass, and an upper factor is above par
pub returns-then-above_par-2 : goal.returns-then-above_par-2
unfolding sheets_usable none_above
returns-then-above_par-2 c =
    rw (
      ← c.some_above.ensures,
      c.if-some_above.false,
      ← c.tiers_usable.ensures,
      c.if-not-tiers_usable.false,
      ← c.above_par.ensures,
      c.if-above_par.false,
      ← c.above_par-2.ensures,
      c.if-above_par-2.true,
    )

-- these and the upper factors pass: the answer is whether one of them is 0
pub returns : goal.returns
unfolding sheets_usable none_above none_zero
returns c =
    rw (
      ← c.some_above.ensures,
      c.if-some_above.false,
      ← c.tiers_usable.ensures,
      c.if-not-tiers_usable.false,
      ← c.above_par.ensures,
      c.if-above_par.false,
      ← c.above_par-2.ensures,
      c.if-above_par-2.false,
      ← c.some_zero.ensures,
    )
