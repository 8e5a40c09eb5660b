-- The products and quotients of a month fit 64 bits, for figures within the limits. Assumes nothing.
use Prim.Native.Nat.{ℕ, ◌+◌, ◌*◌, ◌-◌, ◌≤◌}
use lib.Dec.{lit<, lit≤}
use native.Mathlib.Nat.{mul-le-mul, mul-le-mul_left, le_trans, sub-le}
use native.Mathlib.Omega.{arith}
use Rattle.form.specs.Limits.{months_limit}
use Rattle.form.specs.Shift.{shifted_limit}
use Rattle.pricing.specs.Scales.{par, coupon_growth, servicing_limit}
use Rattle.pricing.specs.Rounding.{Rounding}
use Rattle.pricing.proofs.RoundingLaws.{quotient_le}
use Rattle.withdrawal.specs.Gain.{gain_scale, cost_scale}
use Rattle.withdrawal.specs.Inner.Incentives.{Small}
use Rattle.intangible.specs.RollingTerms.{share_scale}
use Rattle.intangible.specs.Bounded.{rolled_coupon_limit, rolled_limit}
use Rattle.intangible.specs.Inner.Month.{closing_by, leaving_by, part_by, product_by, figure_limit}

-- a balance of 4,295,544,760 at most grows to 4,395,774,138 at most
module _ (opening growth q : ℕ) (ho : opening ≤ rolled_limit) (hg : growth ≤ coupon_growth * rolled_coupon_limit) (hq : q ≤ par) where
  pub closing-fits : opening * (growth + 3 * q) ≤ rolled_limit * (coupon_growth * rolled_coupon_limit + 3 * par)
  closing-fits = let h : growth + 3 * q ≤ coupon_growth * rolled_coupon_limit + 3 * par = omega arith in mul-le-mul ho h

  pub closing-le : (ρ : Rounding) → closing_by ρ growth q opening ≤ figure_limit
  unfolding closing_by
  closing-le ρ = quotient_le ρ (opening * (growth + 3 * q)) (3 * par) figure_limit (lit< tt) (le_trans closing-fits (lit≤ tt))

module _ (opening q : ℕ) (ho : opening ≤ rolled_limit) (hq : q ≤ par) where
  pub leaving-fits : opening * (servicing_limit + par - q) ≤ rolled_limit * (servicing_limit + par)
  leaving-fits = let h : servicing_limit + par - q ≤ servicing_limit + par = sub-le (servicing_limit + par) q in mul-le-mul ho h

  pub leaving-le : (ρ : Rounding) → leaving_by ρ servicing_limit q opening ≤ figure_limit
  unfolding leaving_by
  leaving-le ρ = quotient_le ρ (opening * (servicing_limit + par - q)) par figure_limit (lit< tt) (le_trans leaving-fits (lit≤ tt))

-- a part is at most the whole
pub part-le : (ρ : Rounding) (balance share : ℕ) → share ≤ share_scale → part_by ρ share balance ≤ balance
unfolding part_by
part-le ρ balance share h = quotient_le ρ (balance * share) share_scale balance (lit< tt) (mul-le-mul_left balance h)

-- what is discounted is at most the flow
pub product_le : (ρ : Rounding) (flow df : ℕ) → df ≤ par → product_by ρ df flow ≤ flow
unfolding product_by
product_le ρ flow df h = quotient_le ρ (flow * df) par flow (lit< tt) (mul-le-mul_left flow h)

-- the incentive without a penalty
module _ (c r n : ℕ) (hc : c ≤ rolled_coupon_limit) (hr : r ≤ shifted_limit) (hn : n ≤ months_limit) where
  pub earned-fits : r * n ≤ shifted_limit * months_limit
  earned-fits = mul-le-mul hr hn

  pub cost-fits : cost_scale * c * n ≤ cost_scale * rolled_coupon_limit * months_limit
  cost-fits = mul-le-mul (mul-le-mul_left cost_scale hc) hn

  pub incentive-small : Small (record { earned = gain_scale * (r * n); forfeited = 0; cost = cost_scale * c * n })
  incentive-small = record { earned-le = omega (arith, earned-fits); forfeited-le = lit≤ tt; cost-le = le_trans cost-fits (lit≤ tt) }
