-- `bounds_in` meets its contract. Assumes nothing.
use Rattle.pricing.specs.Run.{worth_by}
use Rattle.pricing.specs.Rounding.{rounding_of}
use Rattle.borrowing_prices.specs.Inner.Tabled.{bounds_with}
use Rattle.borrowing_prices.proofs.bounds_in.Goals as goal

pub returns : goal.returns
unfolding bounds_with worth_by rounding_of
returns c =
    rw (c.value_of.ensures, c.value_of-2.ensures, c.price_of-least.ensures.0, c.price_of-most.ensures.0)
