-- `price_factors::factor_chains::first_held` meets its contract. Assumes nothing.
use Rattle.pricing.specs.Rounding.{rounding_of}
use Rattle.pricing.specs.Inner.Multipliers.{first_by}
use borrow.Author.Rules.{rules}
use Rattle.price_factors.proofs.factor_chains.first_held.Goals as goal

pub returns-then-up : goal.returns-then-up
unfolding first_by rounding_of
returns-then-up c = search rules

pub returns-else-up : goal.returns-else-up
unfolding first_by rounding_of
returns-else-up c = search rules
