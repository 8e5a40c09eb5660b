-- The months of a deposit with discount factors from a list. Assumes nothing.
use Prim.Native.Nat.{ℕ, suc, ◌+◌, ◌*◌, ◌-◌, ◌≤◌, ◌<◌}
use mathlib.Core.Path.{◌≡◌, sym}
use mathlib.Core.Bool.{true, false}
use mathlib.Core.List.{List}
use borrow.Author.Tests.{eq-eqb, ne_eqb}
use lib.Dec.{eqb}
use lib.ListN.{get_or}
use native.Mathlib.Nat.{le_refl, ne_of_lt}
use native.Mathlib.Omega.{arith}
use Rattle.form.specs.Shift.{scenario_count}
use Rattle.withdrawal.specs.Tiers.{TierTable}
use Rattle.withdrawal.specs.MonthSurvival.{account_of, month_survival}
use Rattle.withdrawal.proofs.MonthSurvivalLaws.{last-month}
use Rattle.pricing.specs.declared.Run.{Run}
use Rattle.pricing.specs.Scales.{par, coupon_growth, amount_limit}
use Rattle.pricing.specs.Rounding.{Rounding}
use Rattle.pricing.specs.Run.{discounted_sum}
use Rattle.pricing.specs.Inner.Month.{run_by, next_run, Small}
use Rattle.pricing.proofs.LimitLaws.{discounted-limit}
use Rattle.pricing.proofs.RunLaws.{run-suc, run_small}
use Rattle.price_deposits.specs.declared.Deposit.{Deposit}
use Rattle.price_deposits.specs.DepositTerms.{servicing_cost, terms_of}
use Rattle.price_factors.specs.Inner.Factors.{factor_in, AtMostPar}
use Rattle.price_deposits.specs.Inner.Prices.{tabled_price, DepositLimits}
use Rattle.price_deposits.proofs.TermsLaws.{terms-of-bounded}

pub factor-in-suc : (factors : List ℕ) (scenario t : ℕ) → factor_in factors scenario (suc t) ≡ get_or factors (scenario_count * t + scenario) 0
unfolding factor_in
factor-in-suc factors scenario t = let e : suc t - 1 ≡ t = omega arith in rw e

factor-in-le : (factors : List ℕ) (scenario : ℕ) → AtMostPar factors → (t : ℕ) → factor_in factors scenario t ≤ par
unfolding factor_in
factor-in-le factors scenario h t = h (scenario_count * (t - 1) + scenario)

-- the price of a deposit within the limits
pub tabled-price-limit : (ρ : Rounding) (tiers : TierTable) (d : Deposit) (rate : ℕ → ℕ) (factors : List ℕ) (scenario : ℕ) → DepositLimits d
    → AtMostPar factors → tabled_price ρ tiers d rate factors scenario ≤ amount_limit
unfolding tabled_price terms_of
tabled-price-limit ρ tiers d rate factors scenario l p =
    discounted-limit (terms_of tiers d rate) (factor_in factors scenario) (factor-in-le factors scenario p) (terms-of-bounded tiers d rate l.coupon-le l.months-le)
    d.months (le_refl d.months) ρ

-- month t + 1 of a deposit: g is the growth of its coupon, s its servicing cost, q its survival, f its discount factor
module _ (ρ : Rounding) (tiers : TierTable) (d : Deposit) (rate : ℕ → ℕ) (factors : List ℕ) (scenario t : ℕ) {g s q f : ℕ} {run : Run}
    (growth : g ≡ coupon_growth * d.coupon)
    (servicing : s ≡ servicing_cost (account_of d.brokered))
    (survival : q ≡ month_survival tiers (account_of d.brokered) d.coupon d.penalty (rate (suc t)) d.months (suc t))
    (factor : f ≡ get_or factors (scenario_count * t + scenario) 0)
    (here : run ≡ run_by ρ (terms_of tiers d rate) (factor_in factors scenario) t)
  where
    -- the run after it
    next : next_run ρ g s q f (eqb (suc t) d.months) run ≡ run_by ρ (terms_of tiers d rate) (factor_in factors scenario) (suc t)
    unfolding terms_of
    next =
        rw (growth, servicing, survival, factor, here, ← (factor-in-suc factors scenario t))
        (run-suc ρ (terms_of tiers d rate) (factor_in factors scenario) t)

    pub early-on : suc t < d.months → next_run ρ g s q f false run ≡ run_by ρ (terms_of tiers d rate) (factor_in factors scenario) (suc t)
    early-on h = rw (← (ne_eqb (suc t) d.months (ne_of_lt h))) next

    pub last_on : suc t ≡ d.months → next_run ρ g s q f true run ≡ run_by ρ (terms_of tiers d rate) (factor_in factors scenario) (suc t)
    last_on h = rw (← (eq-eqb (suc t) d.months h)) next

    -- its sizes
    pub month-small : DepositLimits d → AtMostPar factors → t < d.months → Small run g s q f
    unfolding terms_of
    month-small l p h =
        rw (growth, servicing, survival, factor, here, ← (factor-in-suc factors scenario t))
        (run_small ρ (terms_of tiers d rate) (factor_in factors scenario) (terms-of-bounded tiers d rate l.coupon-le l.months-le)
        (factor-in-le factors scenario p) t h)

-- in the last month nothing is withdrawn early
pub last-survival : (tiers : TierTable) (d : Deposit) (rate : ℕ → ℕ) (t : ℕ) → suc t ≡ d.months
    → par ≡ month_survival tiers (account_of d.brokered) d.coupon d.penalty (rate (suc t)) d.months (suc t)
last-survival tiers d rate t e = rw e (sym (last-month tiers (account_of d.brokered) d.coupon d.penalty (rate d.months) d.months))

-- the price is that of the run after the last month; a term of no month has none
pub last-price : (ρ : Rounding) (tiers : TierTable) (d : Deposit) (rate : ℕ → ℕ) (factors : List ℕ) (scenario t : ℕ) → suc t ≡ d.months
    → (run_by ρ (terms_of tiers d rate) (factor_in factors scenario) (suc t)).price ≡ tabled_price ρ tiers d rate factors scenario
unfolding run_by tabled_price
last-price ρ tiers d rate factors scenario t e = rw e

pub no-price : (ρ : Rounding) (tiers : TierTable) (d : Deposit) (rate : ℕ → ℕ) (factors : List ℕ) (scenario : ℕ) → 0 ≡ d.months
    → 0 ≡ tabled_price ρ tiers d rate factors scenario
unfolding tabled_price discounted_sum
no-price ρ tiers d rate factors scenario e = rw (← e)
