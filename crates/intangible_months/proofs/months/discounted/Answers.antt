-- `months::discounted` meets its contract. Assumes nothing.
use Rattle.pricing.specs.Rounding.{rounding_of}
use Rattle.intangible.specs.Inner.Month.{product_by}
use Rattle.intangible_months.proofs.FitLaws.{product_le}
use Rattle.intangible_months.proofs.months.discounted.Goals as goal

pub returns : goal.returns
unfolding product_by
returns c =
    (c.quotient.ensures, rw c.quotient.ensures (product_le (rounding_of c.args.up) _ _ c.requires.1))
