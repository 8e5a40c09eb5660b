-- Gain and cost as the code holds them, in whole numbers: the gain is what is earned less what is forfeited. Definitions only.
use Rattle.std.specs.Prelude.{ℕ, ◌*◌, ◌-◌, ◌^◌, ◌≤◌, ℤ, pos, ◌-ℤ◌}
use Rattle.form.specs.Limits.{coupon_limit, penalty_limit}
use Rattle.withdrawal.specs.declared.CouponParts.{CouponParts}
use Rattle.withdrawal.specs.declared.Incentive.{Incentive}
use Rattle.withdrawal.specs.Gain.{gain_scale, penalty_scale, cost_scale}

-- what a coupon c and a penalty p make of it in every month
unfoldable pub parts_of : ℕ → ℕ → CouponParts
parts_of c p = record { share = gain_scale - c * p; forfeited = penalty_scale * c * p; cost = cost_scale * c }

-- the incentive at a retail rate r with n months left
unfoldable pub incentive_from : CouponParts → ℕ → ℕ → Incentive
incentive_from x r n = record { earned = x.share * (r * n); forfeited = x.forfeited; cost = x.cost * n }

-- the gain that an incentive holds
unfoldable pub gain_of : Incentive → ℤ
gain_of x = pos x.earned -ℤ pos x.forfeited

-- figures whose products, of a gain with 100 and of a cost with an edge, fit 64 bits
abbrev pub gain_limit : ℕ
gain_limit = 10 ^ 16

abbrev pub cost_limit : ℕ
cost_limit = 10 ^ 14

pub record Small (x : Incentive) : Type 0 where
  pub earned-le : x.earned ≤ gain_limit
  pub forfeited-le : x.forfeited ≤ gain_limit
  pub cost-le : x.cost ≤ cost_limit

-- the parts of a coupon and a penalty within their limits
pub record PartsWithin (x : CouponParts) : Type 0 where
  pub share-le : x.share ≤ gain_scale
  pub forfeited-le : x.forfeited ≤ penalty_scale * coupon_limit * penalty_limit
  pub cost-le : x.cost ≤ cost_scale * coupon_limit
