-- `months::leaving` meets its contract. Assumes nothing.
use Rattle.pricing.specs.Rounding.{rounding_of}
use Rattle.price_deposits.specs.DepositTerms.{servicing_cost}
use Rattle.intangible.specs.Inner.Month.{leaving_by}
use Rattle.intangible_months.proofs.FitLaws.{leaving-le}
use Rattle.intangible_months.proofs.months.leaving.Goals as goal

pub returns : goal.returns
unfolding leaving_by servicing_cost
returns c =
    let p = c.requires in
    (c.quotient.ensures, rw c.quotient.ensures (leaving-le _ _ p.0 p.1 (rounding_of c.args.up)))
