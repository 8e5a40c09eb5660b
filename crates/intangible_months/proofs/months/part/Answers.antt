-- `months::part` meets its contract. Assumes nothing.
use Rattle.pricing.specs.Rounding.{rounding_of}
use Rattle.intangible.specs.Inner.Month.{part_by}
use Rattle.intangible_months.proofs.FitLaws.{part-le}
use Rattle.intangible_months.proofs.months.part.Goals as goal

pub returns : goal.returns
unfolding part_by
returns c =
    (c.quotient.ensures, rw c.quotient.ensures (part-le (rounding_of c.args.up) _ _ c.requires.1))
