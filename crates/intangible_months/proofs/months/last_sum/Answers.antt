-- `months::last_sum` meets its contract. Assumes nothing.
use Rattle.intangible.specs.Inner.Month.{last_sum}
use Rattle.intangible_months.proofs.months.last_sum.Goals as goal

pub returns : goal.returns
unfolding last_sum
returns c =
    rw (c.discounted.ensures.0, c.closing-balance.ensures.0, c.leaving-outflow.ensures.0)
