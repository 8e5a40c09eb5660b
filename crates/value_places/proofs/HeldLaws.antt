-- The values of what a place holds under a filing: lower ≤ exact ≤ upper, their widths and their limit (01:58), and that the code's values are these.
-- Assumes nothing.
use Prim.Native.Nat.{ℕ, suc, ◌+◌, ◌*◌, ◌-◌, ◌≤◌, ◌<◌}
use mathlib.Core.Path.{◌≡◌, sym, ◌∙◌}
use mathlib.Core.Logic.{⊎_elim}
use mathlib.Core.List.{List}
use native.Mathlib.Nat.{mul-le-mul, eq-zero-or-pos}
use native.Mathlib.Omega.{arith}
use lib.Dec.{lit<}
use Rattle.fraction.specs.Fraction.{Encloses}
use Rattle.form.specs.Limits.{balance_limit, sheet_months}
use Rattle.form.specs.Shift.{path_rate}
use Rattle.filing_contents.specs.Contents.{Contents, cd_yield}
use Rattle.filing_contents.specs.Valid.{Valid}
use Rattle.form.specs.declared.sub_balances.SubBalance.{SubBalance}
use Rattle.form.specs.PlaceOrder.{position_of}
use Rattle.withdrawal.specs.Tiers.{TierTable}
use Rattle.value_places.specs.RowTotals.{value_limit}
use Rattle.pricing.specs.Bounded.{Bounded}
use Rattle.pricing.specs.Scales.{value_scale}
use Rattle.pricing.specs.Rounding.{Rounding, down, up}
use Rattle.pricing.specs.Run.{worth_by, value_by}
use Rattle.pricing.proofs.EnclosureLaws.{value-encloses}
use Rattle.pricing.proofs.WidthLaws.{value-width}
use Rattle.pricing.proofs.RoundingLaws.{quotient_le}
use Rattle.pricing.proofs.LimitLaws.{price-limit}
use Rattle.price_deposits.specs.declared.Deposit.{Deposit}
use Rattle.price_factors.specs.Inner.Factors.{sheet_yield, factors_by, WithinRates}
use Rattle.price_deposits.specs.Inner.Prices.{shifted_path, DepositLimits}
use Rattle.price_multipliers.specs.Inner.Tables.{HoldsFactors, factors_of}
use Rattle.price_deposits.specs.Inner.Values.{tabled_values}
use Rattle.price_deposits.proofs.TermsLaws.{terms-of-bounded}
use Rattle.price_deposits.proofs.ValueLaws.{values-are, no-values}
use Rattle.price_deposits.proofs.DiscountLaws.{values-by}
use Rattle.withdrawal_filing.specs.FilingTiers.{filing_tiers}
use Rattle.value_places.specs.PlaceTerms.{deposit_at, rate_at, terms_held, month_yield}
use Rattle.value_places.specs.HeldValues.{exact_held, value_held, bounds_held, values_held}
use Rattle.value_places.specs.Inner.PlaceRows.{tabled_held}

-- the yields and the retail rates of a valid filing are within the limit
module _ (k : Contents) (v : Valid k) where
  pub yields_within : WithinRates k.yields
  unfolding cd_yield
  yields_within i = let e : suc i - 1 ≡ i = omega arith in rw e at (v.yield-limit (suc i))

  pub rates-within : WithinRates k.rates
  unfolding path_rate
  rates-within i = let e : sheet_months * (1 - 1) + (suc i - 1) ≡ i = omega arith in rw e at (v.rate-limit 1 (suc i))

module _ (k : Contents) (place : ℕ) (held : SubBalance) where
  pub held-encloses : (scenario : ℕ) → Encloses (value_held down k scenario place held) (exact_held k scenario place held) (value_held up k scenario place held)
  unfolding value_held exact_held
  held-encloses scenario = value-encloses held.balance (terms_held k scenario place held) (month_yield k scenario)

  module _ (limits : DepositLimits (deposit_at place held)) where
    terms-bounded : (scenario : ℕ) → Bounded (terms_held k scenario place held)
    unfolding terms_held
    terms-bounded scenario = terms-of-bounded _ _ _ limits.coupon-le limits.months-le

    -- 250 × (upper - lower) ≤ balance + 500
    pub held-width : (scenario : ℕ) → 250 * value_held up k scenario place held ≤ 250 * value_held down k scenario place held + (held.balance + 500)
    unfolding value_held
    held-width scenario = value-width held.balance (terms_held k scenario place held) (month_yield k scenario) (terms-bounded scenario)

    -- no value is above the limit of a value
    pub held-le : held.balance ≤ balance_limit → (ρ : Rounding) (scenario : ℕ) → value_held ρ k scenario place held ≤ value_limit
    unfolding value_held value_by worth_by
    held-le small ρ scenario =
        quotient_le ρ _ value_scale value_limit (lit< tt)
        (omega (arith, mul-le-mul small (price-limit (terms_held k scenario place held) (month_yield k scenario) (terms-bounded scenario) ρ)))

    -- with factors that reach as far as its months do if it has a balance, the code's values are these
    pub held-are : (longest : ℕ) → (0 < held.balance → held.remaining_months ≤ longest)
        → tabled_held held place k.rates (filing_tiers k) (factors_by down k.yields longest) (factors_by up k.yields longest) ≡ values_held k place held
    unfolding tabled_held values_held bounds_held value_held terms_held rate_at month_yield cd_yield shifted_path sheet_yield deposit_at
    held-are longest reach =
        values-are (filing_tiers k) k.yields longest held.balance (deposit_at place held) k.rates (position_of place).column limits.months-le reach

-- a zero balance has the same values by any factors
none-same : (tiers : TierTable) (balance : ℕ) (d : Deposit) (rates : List ℕ) (column : ℕ) (lower upper below above : List ℕ) → balance ≡ 0
    → tabled_values tiers balance d rates column below above ≡ tabled_values tiers balance d rates column lower upper
none-same tiers balance d rates column lower upper below above e = rw e (sym (no-values tiers d rates column below above) ∙ no-values tiers d rates column lower upper)

-- what a place holds, valued by tables of the multipliers of lists' factors that reach as far as its months do if it has a balance: the values by the lists
pub held_by : (place : ℕ) (held : SubBalance) (rates : List ℕ) (tiers : TierTable) (lower upper below above : List ℕ)
    → (0 < held.balance → HoldsFactors down (deposit_at place held).months lower below × HoldsFactors up (deposit_at place held).months upper above)
    → tabled_held held place rates tiers (factors_of down (deposit_at place held).months below) (factors_of up (deposit_at place held).months above)
    ≡ tabled_held held place rates tiers lower upper
unfolding tabled_held
held_by place held rates tiers lower upper below above holds =
    ⊎_elim (λ e. none-same tiers held.balance (deposit_at place held) rates (position_of place).column lower upper _ _ e)
    (λ pos. values-by tiers held.balance (deposit_at place held) rates (position_of place).column lower upper below above (holds pos).0 (holds pos).1)
    (eq-zero-or-pos held.balance)
