-- `months::early_month` meets its contract. Assumes nothing.
use Rattle.intangible.specs.Inner.Month.{early_month}
use Rattle.intangible_months.proofs.months.early_month.Goals as goal

pub returns : goal.returns
unfolding early_month
returns c =
    rw (c.closing.ensures.0, c.discounted.ensures.0, c.leaving-outflow.ensures.0)
