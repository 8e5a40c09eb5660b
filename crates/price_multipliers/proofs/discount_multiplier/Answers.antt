-- `price_multipliers::discount_multiplier` meets its contract. Assumes nothing.
use Rattle.pricing.specs.Rounding.{rounding_of}
use Rattle.price_multipliers.specs.Multipliers.{discount_multiplier}
use Rattle.price_multipliers.proofs.discount_multiplier.Goals as goal

pub returns-then-up : goal.returns-then-up
unfolding discount_multiplier rounding_of
returns-then-up c = simp (c.if-up.true, c.saturating_sub.ensures, c.par_multiplier-multiplier.ensures)

pub returns-else-up : goal.returns-else-up
unfolding discount_multiplier rounding_of
returns-else-up c = simp (c.if-up.false, c.par_multiplier-multiplier.ensures)
