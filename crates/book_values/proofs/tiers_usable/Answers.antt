-- `tiers_usable` meets its contract: the tests in their order. Assumes nothing.
use borrow.Author.Tests.{le-leb, lt-leb}
use Rattle.book_values.specs.Sheets.{none_above, tiers_usable}
use Rattle.book_values.proofs.tiers_usable.Goals as goal

pub returns-then-tiers-gt-TIER_LIMIT : goal.returns-then-tiers-gt-TIER_LIMIT
unfolding tiers_usable
returns-then-tiers-gt-TIER_LIMIT c = rw (lt-leb _ _ c.if-tiers-gt-TIER_LIMIT.true)

pub returns-then-some_not_rising : goal.returns-then-some_not_rising
unfolding tiers_usable
returns-then-some_not_rising c = rw (le-leb _ _ c.if-tiers-gt-TIER_LIMIT.false, ← c.some_not_rising.ensures, c.if-some_not_rising.true)

-- the count is within its limit and the edges rise: the answer is that of the withdrawals
pub returns : goal.returns
unfolding tiers_usable none_above
returns c =
    rw (
      le-leb _ _ c.if-tiers-gt-TIER_LIMIT.false,
      ← c.some_not_rising.ensures,
      c.if-some_not_rising.false,
      ← c.some_above.ensures,
    )
