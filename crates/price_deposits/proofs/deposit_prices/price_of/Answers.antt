-- `price_deposits::deposit_prices::price_of` meets its contract. Assumes nothing.
use Prim.Native.Nat.{◌<◌}
use native.Mathlib.Omega.{arith}
use Rattle.pricing.specs.Rounding.{down, up, rounding_of}
use Rattle.price_months.specs.Walks.{priced_by}
use Rattle.price_deposits.specs.Inner.Walked.{walked_prices}
use Rattle.price_deposits.proofs.DepositPriceLaws.{priced-suc}
use Rattle.price_deposits.proofs.deposit_prices.price_of.Goals as goal

pub returns-then-months-eq0 : goal.returns-then-months-eq0
unfolding walked_prices priced_by
returns-then-months-eq0 c = rw c.if-months-eq0.true

-- the price is the last month's step on the run before it, at either rounding
pub returns : goal.returns
unfolding walked_prices rounding_of
returns c =
    let some : 0 < c.args.months = omega (arith, c.if-months-eq0.false) in
    rw (
      c.last.ensures,
      c.last-2.ensures,
      c.early_months-runs.ensures.lower_value,
      c.early_months-runs.ensures.upper_value,
      priced-suc down _ _ _ _ _ c.args.months some,
      priced-suc up _ _ _ _ _ c.args.months some,
    )
