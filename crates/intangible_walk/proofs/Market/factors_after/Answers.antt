-- `factors_after` meets its contract. Assumes nothing.
use Rattle.price_deposits.proofs.PriceLaws.{factor-in-suc}
use Rattle.intangible_walk.specs.Inner.Walks.{factors_at}
use Rattle.intangible_walk.proofs.Market.factors_after.Goals as goal

pub returns : goal.returns
unfolding factors_at
returns c =
    let factors = c.args.self.now.factors.now in
    rw (factor-in-suc factors.lower c.args.scenario c.args.t, factor-in-suc factors.upper c.args.scenario c.args.t)
