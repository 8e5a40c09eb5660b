-- `rolled` meets its contract. Assumes nothing.
use native.Mathlib.Numerals.{add-one}
use Rattle.pricing.specs.Rounding.{rounding_of}
use Rattle.intangible_walk.specs.Inner.Walks.{factors_at, rolling_walk}
use Rattle.intangible_walk.proofs.StepLaws.{small-lower, small-upper}
use Rattle.intangible_walk.proofs.Walk.rolled.Goals as goal

pub rolling_month-lower-requires : goal.rolling_month-lower-requires
rolling_month-lower-requires c = (small-lower c.requires.0 c.factors_after-factors.ensures, c.requires.1)

pub rolling_month-upper-requires : goal.rolling_month-upper-requires
rolling_month-upper-requires c = (small-upper c.requires.0 c.factors_after-factors.ensures, c.requires.1)

pub returns : goal.returns
unfolding factors_at rolling_walk rounding_of
returns c =
    rw (c.rolling_month-lower.ensures, c.rolling_month-upper.ensures, c.factors_after-factors.ensures, add-one)
