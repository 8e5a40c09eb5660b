-- The starred figures hold. Assumes nothing.
use Prim.Native.Nat.{ℕ, ◌+◌, ◌*◌, ◌<◌}
use mathlib.Core.Path.{◌≡◌, refl}
use native.Mathlib.Omega.{arith}
use borrow.Author.Tests.{le-leb, lt-leb}
use Rattle.lists.specs.Sums.{sum}
use Rattle.shares.specs.Apportion.{apportion, shares_from, cumulative_share}
use Rattle.shares.specs.SubBalances.{account_parts}
use Rattle.withdrawal.specs.Gain.{gain, cost, at_most}
use Rattle.withdrawal.specs.Tiers.{house_tiers, tier, reached, first_reached, annual_withdrawal}
use Rattle.withdrawal.specs.MonthSurvival.{account_of, early_survival, month_survival}
use Rattle.withdrawal.proofs.SurvivalLaws.{survival-of-zero}
use Rattle.pricing.specs.Rounding.{quotient}
use Rattle.pricing.specs.Run.{balance_by, outflow_by, flow_by, discount_by, discount_factor_by, discounted_sum, price_by, worth_by, value_by}
use Rattle.price_deposits.specs.DepositTerms.{servicing_cost, terms_of}
use Rattle.theorem_cases.specs.Starred.{StarredFigures, house_terms, flat}

-- the tier of a retail rate r at coupon 6,000: the edges above it are not reached, as edge × 6,000 > 1,000 × r
edge-reached : (n : ℕ) → 0 < n → annual_withdrawal house_tiers (gain 6000 0 600 n) (cost 6000 n) ≡ 130
unfolding gain cost at_most house_tiers tier reached first_reached annual_withdrawal
edge-reached n h =
    let a : ℕ = 100 * (120000000 * (600 * n) + 0) in
    let k : ℕ = 12000000 * 6000 * n in
    simp (lt-leb (150 * k) a (omega arith), lt-leb (130 * k) a (omega arith), lt-leb (115 * k) a (omega arith), le-leb (100 * k) a (omega arith))

-- 100 times the gain is 99.8 times the cost, both multiples of n, which is above 0: below the edges 150, 130, 115 and 100, and not below 80,
-- whose withdrawal is 75
edge-missed : (n : ℕ) → 0 < n → annual_withdrawal house_tiers (gain 6000 0 599 n) (cost 6000 n) ≡ 75
unfolding gain cost at_most house_tiers tier reached first_reached annual_withdrawal
edge-missed n h =
    let a : ℕ = 100 * (120000000 * (599 * n) + 0) in
    let k : ℕ = 12000000 * 6000 * n in
    simp (
      lt-leb (150 * k) a (omega arith),
      lt-leb (130 * k) a (omega arith),
      lt-leb (115 * k) a (omega arith),
      lt-leb (100 * k) a (omega arith),
      le-leb (80 * k) a (omega arith),
    )

-- each figure is computed, but for those at any number of months left, which are the laws above, and the survival of 0, which is a law
pub starred : StarredFigures
unfolding sum apportion shares_from cumulative_share account_parts gain cost at_most house_tiers tier reached first_reached annual_withdrawal early_survival month_survival quotient balance_by outflow_by flow_by discount_by discount_factor_by discounted_sum price_by worth_by value_by account_of servicing_cost terms_of house_terms flat
starred =
    record {
      brokered-shares = refl;
      penalty-shares = refl;
      equal-shares = refl;
      retail-lower-price = λ p r. refl;
      retail-upper-price = λ p r. refl;
      retail-lower-value = λ p r. refl;
      retail-upper-value = λ p r. refl;
      withdrawn-lower-price = refl;
      withdrawn-upper-price = refl;
      kept-lower-price = refl;
      kept-upper-price = refl;
      negative-gain = refl;
      edge-reached = edge-reached;
      edge-missed = edge-missed;
      nothing-withdrawn = survival-of-zero;
    }
