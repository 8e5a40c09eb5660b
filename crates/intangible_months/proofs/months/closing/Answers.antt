-- `months::closing` meets its contract. Assumes nothing.
use Rattle.pricing.specs.Rounding.{rounding_of}
use Rattle.intangible.specs.Inner.Month.{closing_by}
use Rattle.intangible_months.proofs.FitLaws.{closing-le}
use Rattle.intangible_months.proofs.months.closing.Goals as goal

pub returns : goal.returns
unfolding closing_by
returns c =
    let p = c.requires in
    (c.quotient.ensures, rw c.quotient.ensures (closing-le _ _ _ p.0 p.1 p.2 (rounding_of c.args.up)))
