-- The limits within which the terms of the intangible lie for every accepted filing, and what they bound (02:CR 9). Definitions only.
use Rattle.std.specs.Prelude.{ℕ, ◌*◌, ◌≤◌, ◌<◌, ◌≡◌}
use Rattle.form.specs.Limits.{months_limit}
use Rattle.form.specs.Shift.{shifted_limit}
use Rattle.pricing.specs.Scales.{par, servicing_limit}
use Rattle.intangible.specs.RollingTerms.{RollingTerms, share_scale, last_month}
use Rattle.intangible.specs.RolledMonths.{term_coupon}

-- terms whose coupons are all at most `limit`, thousandths of a percent a year
pub record RollingBounded (limit : ℕ) (k : RollingTerms) : Type 0 where
  pub coupon-limit : (t : ℕ) → term_coupon k t ≤ limit
  pub months-pos : 0 < k.months
  pub months-limit : k.months ≤ months_limit
  pub share-limit : k.share ≤ share_scale
  pub servicing-limit : k.servicing ≤ servicing_limit
  pub survival-limit : (c r n : ℕ) → k.survival c r n ≤ par
  pub horizon-is : k.horizon ≡ last_month

-- the highest coupon of any term, thousandths of a percent a year: ten times the highest shifted rate, which is above the highest filed one
abbrev pub rolled_coupon_limit : ℕ
rolled_coupon_limit = 10 * shifted_limit

-- no balance, and no sum of flows, of terms within these limits is above it, millionths
abbrev pub rolled_limit : ℕ
rolled_limit = 4295544760

-- no upper result stands further above the lower one, millionths
abbrev pub width_limit : ℕ
width_limit = 1192456
