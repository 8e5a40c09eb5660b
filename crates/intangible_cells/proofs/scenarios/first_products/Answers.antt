-- `scenarios::first_products` meets its contract. Assumes nothing.
use Prim.Native.Nat.{ℕ, suc, ◌-◌, ◌<◌}
use mathlib.Core.Path.{◌≡◌}
use native.Mathlib.Nat.{le_trans}
use native.Mathlib.Omega.{arith}
use Rattle.pricing.specs.Rounding.{rounding_of}
use Rattle.price_factors.specs.Inner.Factors.{factor_in}
use Rattle.intangible_walk.specs.Inner.Walks.{factors_at}
use Rattle.intangible_cells.specs.Inner.Filed.{products_of}
use Rattle.intangible_cells.proofs.scenarios.first_products.Goals as goal

-- the month of the first product
month-is : (months : ℕ) → 0 < months → suc (months - 1) ≡ months
month-is months h = omega arith

pub discounted-requires : goal.discounted-requires
unfolding factors_at factor_in
discounted-requires c = let p = c.requires in (omega (arith, p.0), rw c.factors_after-factors.ensures (p.5 _))

pub discounted-requires-2 : goal.discounted-requires-2
unfolding factors_at factor_in
discounted-requires-2 c = let p = c.requires in (omega (arith, p.1), rw c.factors_after-factors.ensures (p.6 _))

pub returns : goal.returns
unfolding products_of factors_at rounding_of
returns c =
    let p = c.requires in (
      rw (c.discounted.ensures.0, c.discounted-2.ensures.0, c.factors_after-factors.ensures, month-is c.args.months p.2),
      le_trans c.discounted.ensures.1 p.0,
      le_trans c.discounted-2.ensures.1 p.1,
    )
