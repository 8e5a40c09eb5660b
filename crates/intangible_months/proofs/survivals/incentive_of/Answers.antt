-- `survivals::incentive_of` meets its contract. Assumes nothing.
use Rattle.intangible_months.proofs.FitLaws.{incentive-small}
use Rattle.intangible_months.proofs.LentLaws.{incentive-is}
use Rattle.intangible_months.proofs.survivals.incentive_of.Goals as goal

pub returns : goal.returns
returns c = let a = c.args in (incentive-is a.coupon a.rate a.left, incentive-small _ _ _ c.requires.0 c.requires.1 c.requires.2)
