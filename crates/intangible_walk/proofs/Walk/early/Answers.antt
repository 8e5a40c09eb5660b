-- `early` meets its contract. Assumes nothing.
use native.Mathlib.Numerals.{add-one}
use Rattle.pricing.specs.Rounding.{rounding_of}
use Rattle.intangible_walk.specs.Inner.Walks.{factors_at, early_walk}
use Rattle.intangible_walk.proofs.StepLaws.{small-lower, small-upper}
use Rattle.intangible_walk.proofs.Walk.early.Goals as goal

pub early_month-lower-requires : goal.early_month-lower-requires
early_month-lower-requires c =
    (small-lower c.requires.small_walk.0 c.factors_after-factors.ensures, rw (c.early_survival-survival.ensures, c.rate_in-rate.ensures.0, add-one) c.requires.month_bound_2)

pub early_month-upper-requires : goal.early_month-upper-requires
early_month-upper-requires c =
    (small-upper c.requires.small_walk.0 c.factors_after-factors.ensures, rw (c.early_survival-survival.ensures, c.rate_in-rate.ensures.0, add-one) c.requires.month_bound_2)

pub returns : goal.returns
unfolding factors_at early_walk rounding_of
returns c =
    rw (
      c.early_month-lower.ensures,
      c.early_month-upper.ensures,
      c.early_survival-survival.ensures,
      c.rate_in-rate.ensures.0,
      c.factors_after-factors.ensures,
      add-one,
    )
