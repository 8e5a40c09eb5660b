-- The run of a deposit with discount factors from a list, and the limits of a deposit (01:24). Definitions only.
use Rattle.std.specs.Prelude.{ℕ, ◌≤◌, List, length, get_or}
use Rattle.form.specs.Limits.{coupon_limit, penalty_limit, months_limit, rate_limit, rate_count}
use Rattle.form.specs.Shift.{shifted_rate, path_rate}
use Rattle.withdrawal.specs.Tiers.{TierTable}
use Rattle.pricing.specs.declared.Bounds.{Bounds}
use Rattle.pricing.specs.Rounding.{Rounding, down, up}
use Rattle.pricing.specs.Run.{discounted_by}
use Rattle.price_factors.specs.Inner.Factors.{factor_in}
use Rattle.price_deposits.specs.declared.Deposit.{Deposit}
use Rattle.price_deposits.specs.DepositTerms.{terms_of}

-- the price of a deposit at a rounding and the shifted retail rates of the months, billionths, with discount factors from a list
unfoldable pub tabled_price : Rounding → TierTable → Deposit → (ℕ → ℕ) → List ℕ → ℕ → ℕ
tabled_price ρ tiers d rate factors scenario = discounted_by ρ (terms_of tiers d rate) (factor_in factors scenario) d.months

-- lower price by lower factors, upper price by upper factors
unfoldable pub tabled_prices : TierTable → Deposit → (ℕ → ℕ) → List ℕ → List ℕ → ℕ → Bounds ℕ
tabled_prices tiers d rate lower upper scenario =
    record { lower = tabled_price down tiers d rate lower scenario; upper = tabled_price up tiers d rate upper scenario }

-- the shifted retail rates of a column's months, from rates column by column, hundredths of a percent a year
unfoldable pub shifted_path : ℕ → List ℕ → ℕ → ℕ → ℕ
shifted_path scenario rates column month = shifted_rate scenario (path_rate rates column month)

-- the limits of the deposits of an accepted filing
pub record DepositLimits (d : Deposit) : Type 0 where
  pub coupon-le : d.coupon ≤ coupon_limit
  pub penalty-le : d.penalty ≤ penalty_limit
  pub months-le : d.months ≤ months_limit

-- retail rates within the limit, a column among theirs, and as many as the columns have
pub record ColumnRates (rates : List ℕ) (column : ℕ) : Type 0 where
  pub within : (i : ℕ) → get_or rates i 0 ≤ rate_limit
  pub first-le : 1 ≤ column
  pub last-le : column ≤ 3
  pub long : rate_count ≤ length rates
