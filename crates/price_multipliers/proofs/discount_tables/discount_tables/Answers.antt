-- `price_multipliers::discount_tables::discount_tables` meets its contract. Assumes nothing.
use Rattle.pricing.specs.Rounding.{down, up, rounding_of}
use Rattle.price_factors.proofs.FactorLaws.{factors-at-most-par}
use Rattle.price_multipliers.proofs.discount_tables.discount_tables.Goals as goal

pub to_multipliers-requires : goal.to_multipliers-requires
to_multipliers-requires c =
    (rw c.fill_factors.ensures.0 (factors-at-most-par down c.args.yields.now c.args.longest), c.requires.2)

pub to_multipliers-requires-2 : goal.to_multipliers-requires-2
to_multipliers-requires-2 c =
    (rw c.fill_factors.ensures.1 (factors-at-most-par up c.args.yields.now c.args.longest), c.requires.2)

-- the factors filled in become multipliers, lower then upper, and what stands behind is left
pub returns : goal.returns
unfolding rounding_of
returns c = (
  rw c.fill_factors.ensures.0 at c.to_multipliers.ensures.0,
  rw c.fill_factors.ensures.1 at c.to_multipliers-2.ensures.0,
  rw c.fill_factors.ensures.0 at c.to_multipliers.ensures.1,
  rw c.fill_factors.ensures.1 at c.to_multipliers-2.ensures.1,
)
