-- `price_of` meets its contract. The loop's invariant: the products of the months so far are summed. Assumes nothing.
use mathlib.Core.Path.{◌≡◌}
use Rattle.pricing.specs.Rounding.{rounding_of}
use Rattle.pricing.specs.Run.{discounted_sum}
use Rattle.price_factors.specs.Inner.Factors.{factor_in}
use Rattle.borrowing_prices.specs.Run.{flow_with}
use Rattle.borrowing_prices.proofs.price_of.Given as goal

abbrev pub invariant-loop-t : goal.invariant-loop-t
invariant-loop-t l =
    l.price ≡ discounted_sum (rounding_of l.up) (flow_with l.interest l.months) (factor_in l.factors l.scenario) l.t
