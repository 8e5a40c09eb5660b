-- Where the walk of the intangible stands month by month, and what it can be walked by. Definitions only.
-- Discount factors are in lists with seven for each month, billionths; balances and sums in millionths of the opening balance.
use Rattle.std.specs.Prelude.{ℕ, suc, ◌*◌, ◌≤◌, ◌<◌, ◌≡◌, List}
use Rattle.form.specs.Limits.{months_limit}
use Rattle.form.specs.Shift.{scenario_count}
use Rattle.withdrawal.specs.declared.WithdrawalTiers.{WithdrawalTiers}
use Rattle.withdrawal.specs.MonthSurvival.{retail}
use Rattle.withdrawal.specs.Inner.TierArrays.{EdgesFit}
use Rattle.pricing.specs.declared.Bounds.{Bounds}
use Rattle.pricing.specs.Scales.{coupon_growth}
use Rattle.pricing.specs.Rounding.{down, up}
use Rattle.price_factors.specs.Inner.Factors.{factor_in, AtMostPar}
use Rattle.price_deposits.specs.DepositTerms.{servicing_cost}
use Rattle.price_deposits.specs.Inner.Prices.{ColumnRates}
use Rattle.intangible.specs.RollingTerms.{RollingTerms, last_month}
use Rattle.intangible.specs.RolledMonths.{term_coupon, term_end}
use Rattle.intangible.specs.Run.{sum_by}
use Rattle.intangible.specs.Bounded.{RollingBounded, rolled_coupon_limit, rolled_limit}
use Rattle.intangible.specs.Inner.Month.{rolled_at, early_month, rolling_month, last_sum}
use Rattle.intangible_months.specs.declared.Term.{Term}
use Rattle.intangible_walk.specs.declared.Walk.{Walk}

-- the discount factors of a month in a scenario
unfoldable pub factors_at : ℕ → List ℕ → List ℕ → ℕ → Bounds ℕ
factors_at scenario lower upper month = record { lower = factor_in lower scenario month; upper = factor_in upper scenario month }

-- the walk after t months
unfoldable pub walk_at : RollingTerms → ℕ → List ℕ → List ℕ → ℕ → Walk
walk_at k scenario lower upper t =
    record { month = t; runs = record { lower = rolled_at down k (factor_in lower scenario) t; upper = rolled_at up k (factor_in upper scenario) t } }

-- the term of month t
unfoldable pub term_of : RollingTerms → ℕ → Term
term_of k t = record { coupon = term_coupon k t; end = term_end k t }

-- the sums to the horizon
unfoldable pub sums_by : RollingTerms → ℕ → List ℕ → List ℕ → Bounds ℕ
sums_by k scenario lower upper =
    record { lower = sum_by down k (factor_in lower scenario) k.horizon; upper = sum_by up k (factor_in upper scenario) k.horizon }

-- a month of a term with a coupon, thousandths of a percent a year: before its last, with survival q, and the last, of which a share rolls over
unfoldable pub early_walk : ℕ → ℕ → ℕ → List ℕ → List ℕ → Walk → Walk
early_walk coupon q scenario lower upper w =
    record {
      month = suc w.month;
      runs =
          record {
            lower = early_month down (coupon_growth * coupon) (servicing_cost retail) q (factor_in lower scenario (suc w.month)) w.runs.lower;
            upper = early_month up (coupon_growth * coupon) (servicing_cost retail) q (factor_in upper scenario (suc w.month)) w.runs.upper;
          };
    }

unfoldable pub rolling_walk : ℕ → ℕ → ℕ → List ℕ → List ℕ → Walk → Walk
rolling_walk coupon share scenario lower upper w =
    record {
      month = suc w.month;
      runs =
          record {
            lower = rolling_month down (coupon_growth * coupon) (servicing_cost retail) share (factor_in lower scenario (suc w.month)) w.runs.lower;
            upper = rolling_month up (coupon_growth * coupon) (servicing_cost retail) share (factor_in upper scenario (suc w.month)) w.runs.upper;
          };
    }

-- the sums after the month at the horizon
unfoldable pub last_sums : ℕ → ℕ → List ℕ → List ℕ → Walk → Bounds ℕ
last_sums coupon scenario lower upper w =
    record {
      lower = last_sum down (coupon_growth * coupon) (servicing_cost retail) (factor_in lower scenario (suc w.month)) w.runs.lower;
      upper = last_sum up (coupon_growth * coupon) (servicing_cost retail) (factor_in upper scenario (suc w.month)) w.runs.upper;
    }

-- sizes within which the products of a month fit 64 bits
pub record SmallWalk (coupon scenario : ℕ) (lower upper : List ℕ) (w : Walk) : Type 0 where
  pub coupon-le : coupon ≤ rolled_coupon_limit
  pub scenario-lt : scenario < scenario_count
  pub month-lt : w.month < last_month
  pub lower-balance-le : w.runs.lower.balance ≤ rolled_limit
  pub lower-sum-le : w.runs.lower.sum ≤ rolled_limit
  pub upper-balance-le : w.runs.upper.balance ≤ rolled_limit
  pub upper-sum-le : w.runs.upper.sum ≤ rolled_limit
  pub lower-par : AtMostPar lower
  pub upper-par : AtMostPar upper

-- what the walk asks of a cell's terms and of what it is walked by
pub record Walkable (k : RollingTerms) (column scenario : ℕ) (rates : List ℕ) (t : WithdrawalTiers) (lower upper : List ℕ) : Type 0 where
  pub bounded : RollingBounded rolled_coupon_limit k
  pub term-pos : 0 < k.term
  pub term-le : k.term ≤ months_limit
  pub rates-fit : ColumnRates rates column
  pub scenario-lt : scenario < scenario_count
  pub edges_fit : EdgesFit t.count t.edges
  pub lower-par : AtMostPar lower
  pub upper-par : AtMostPar upper

-- a walk stands after a month of the filed term's last or later, before the horizon
pub record Standing (k : RollingTerms) (scenario : ℕ) (lower upper : List ℕ) (w : Walk) : Type 0 where
  pub stands : w ≡ walk_at k scenario lower upper w.month
  pub after : k.months ≤ w.month
  pub before : w.month < k.horizon

-- and within a term, of which so many months have been walked
pub record InTerm (k : RollingTerms) (scenario : ℕ) (lower upper : List ℕ) (term : Term) (w : Walk) : Type 0 where
  pub standing : Standing k scenario lower upper w
  pub term_is : term ≡ term_of k (suc w.month)

-- before the last month of a term that ends before the horizon
pub record RollsOver (k : RollingTerms) (term : Term) (w : Walk) : Type 0 where
  pub ends : suc w.month ≡ term.end
  pub before : suc w.month < k.horizon
