-- `survivals::early_survival` meets its contract: it answers what stands at the level where the search ends. Assumes nothing.
use Rattle.withdrawal.specs.Gain.{gain, cost}
use Rattle.withdrawal.specs.Inner.Levels.{FirstLevel}
use Rattle.intangible_months.specs.Inner.Lent.{lent_survival}
use Rattle.intangible_months.proofs.LentLaws.{searched, lent-reached, lent-unreached}
use Rattle.intangible_months.proofs.survivals.early_survival.Goals as goal

pub returns-then-level-tiers : goal.returns-then-level-tiers
unfolding lent_survival
returns-then-level-tiers c =
    let found : FirstLevel c.args.tiers.now.count c.args.tiers.now.edges (gain c.args.coupon 0 c.args.rate c.args.left)
    (cost c.args.coupon c.args.left) c.reached_level-level.result.level = searched _ _ _ _ _ _ c.incentive_of-incentive.ensures.0 c.reached_level-level.ensures.first in
    lent-reached _ _ _ _ _ _ _ found c.if-level-tiers.true

pub returns-else-level-tiers : goal.returns-else-level-tiers
unfolding lent_survival
returns-else-level-tiers c =
    let found : FirstLevel c.args.tiers.now.count c.args.tiers.now.edges (gain c.args.coupon 0 c.args.rate c.args.left)
    (cost c.args.coupon c.args.left) c.reached_level-level.result.level = searched _ _ _ _ _ _ c.incentive_of-incentive.ensures.0 c.reached_level-level.ensures.first in
    lent-unreached _ _ _ _ _ _ _ found c.if-level-tiers.false
