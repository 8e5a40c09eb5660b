-- `months::rolling_month` meets its contract. Assumes nothing.
use Rattle.intangible.specs.Inner.Month.{rolling_month}
use Rattle.intangible_months.proofs.months.rolling_month.Goals as goal

pub returns : goal.returns
unfolding rolling_month
returns c =
    rw (
      c.part.ensures.0,
      c.discounted.ensures.0,
      c.part-unrolled.ensures.0,
      c.closing-balance.ensures.0,
      c.leaving-outflow.ensures.0,
    )
