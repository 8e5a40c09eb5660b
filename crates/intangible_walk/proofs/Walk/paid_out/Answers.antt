-- `paid_out` meets its contract. Assumes nothing.
use Rattle.pricing.specs.Rounding.{rounding_of}
use Rattle.intangible_walk.specs.Inner.Walks.{factors_at, last_sums}
use Rattle.intangible_walk.proofs.StepLaws.{small-lower, small-upper}
use Rattle.intangible_walk.proofs.Walk.paid_out.Goals as goal

pub last_sum-requires : goal.last_sum-requires
last_sum-requires c = small-lower c.requires c.factors_after-factors.ensures

pub last_sum-requires-2 : goal.last_sum-requires-2
last_sum-requires-2 c = small-upper c.requires c.factors_after-factors.ensures

pub returns : goal.returns
unfolding factors_at last_sums rounding_of
returns c = rw (c.last_sum.ensures, c.last_sum-2.ensures, c.factors_after-factors.ensures)
