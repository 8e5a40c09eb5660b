-- `price_deposits::deposit_prices::value_bounds` meets its contract. Assumes nothing.
use Rattle.pricing.specs.Rounding.{rounding_of}
use Rattle.price_deposits.specs.Inner.Walked.{values_at}
use Rattle.price_deposits.proofs.deposit_prices.value_bounds.Goals as goal

pub value_of-requires : goal.value_of-requires
value_of-requires c = (c.requires.balance_le_balance_limit.0, rw c.price_of-price.ensures c.requires.months_bound.0)

pub value_of-requires-2 : goal.value_of-requires-2
value_of-requires-2 c = (c.requires.balance_le_balance_limit.0, rw c.price_of-price.ensures c.requires.months_bound.1)

pub returns : goal.returns
unfolding values_at rounding_of
returns c = simp (c.value_of.ensures, c.value_of-2.ensures, c.price_of-price.ensures)
