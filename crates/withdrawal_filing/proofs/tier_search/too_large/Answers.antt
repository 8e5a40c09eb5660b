-- `withdrawal_filing::tier_search::too_large` meets its contract. Assumes nothing.
use borrow.Author.Tests.{lt-ltb, le-ltb}
use Rattle.withdrawal_filing.specs.TierAnswers.{too_large}
use Rattle.withdrawal_filing.proofs.tier_search.too_large.Goals as goal

pub returns-then-incentive-gt-GAIN_LIMIT : goal.returns-then-incentive-gt-GAIN_LIMIT
unfolding too_large
returns-then-incentive-gt-GAIN_LIMIT c = rw (lt-ltb _ _ c.if-incentive-gt-GAIN_LIMIT.true)

pub returns-then-incentive-gt-GAIN_LIMIT-2 : goal.returns-then-incentive-gt-GAIN_LIMIT-2
unfolding too_large
returns-then-incentive-gt-GAIN_LIMIT-2 c = rw (le-ltb _ _ c.if-incentive-gt-GAIN_LIMIT.false, lt-ltb _ _ c.if-incentive-gt-GAIN_LIMIT-2.true)

pub returns : goal.returns
unfolding too_large
returns c = rw (le-ltb _ _ c.if-incentive-gt-GAIN_LIMIT.false, le-ltb _ _ c.if-incentive-gt-GAIN_LIMIT-2.false)
