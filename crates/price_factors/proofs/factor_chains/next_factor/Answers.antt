-- `price_factors::factor_chains::next_factor` meets its contract. Assumes nothing.
use native.Mathlib.Numerals.{add-one}
use Rattle.pricing.specs.Rounding.{rounding_of}
use Rattle.pricing.specs.Inner.Multipliers.{next_by}
use Rattle.price_factors.proofs.factor_chains.next_factor.Goals as goal

pub returns-then-up : goal.returns-then-up
unfolding next_by rounding_of
returns-then-up c = simp (c.if-up.true, c.upper_half.ensures.0, add-one)

pub returns-else-up : goal.returns-else-up
unfolding next_by rounding_of
returns-else-up c = simp (c.if-up.false, c.upper_half-else-up.ensures.0)
