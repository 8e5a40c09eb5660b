-- `price_months::month_steps::next` meets its contract. Assumes nothing.
use Rattle.pricing.specs.Rounding.{rounding_of}
use Rattle.price_multipliers.specs.Multipliers.{step_by}
use Rattle.price_multipliers.proofs.StepLaws.{step_gone}
use Rattle.price_months.proofs.FlagLaws.{flag-set}
use Rattle.price_months.proofs.month_steps.next.Goals as goal

pub returns-then-run-eq0 : goal.returns-then-run-eq0
unfolding rounding_of
returns-then-run-eq0 g c = rw (flag-set g.row.UP c.if-this-ne0.true) (step_gone _ _ _ c.if-run-eq0.true)

pub returns : goal.returns
unfolding step_by
returns g c = rw (c.product_of.ensures.0, c.paid_of-paid.ensures.0, c.left_of-left.ensures.0)
