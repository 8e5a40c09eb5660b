-- The deposit at a place, from what the place holds, and its terms in each scenario (01:48-56) under what a filing says. Definitions only.
use Rattle.std.specs.Prelude.{ℕ}
use Rattle.form.specs.Shift.{shifted_rate}
use Rattle.filing_contents.specs.Contents.{Contents, cd_yield, retail_rate}
use Rattle.form.specs.declared.sub_balances.SubBalance.{SubBalance}
use Rattle.form.specs.PlaceOrder.{position_of, is_brokered}
use Rattle.pricing.specs.Terms.{Terms}
use Rattle.price_deposits.specs.DepositTerms.{terms_of}
use Rattle.price_deposits.specs.declared.Deposit.{Deposit}
use Rattle.withdrawal_filing.specs.FilingTiers.{filing_tiers}

-- the deposit at a place, 0 to 35, from what the place holds
unfoldable pub deposit_at : ℕ → SubBalance → Deposit
deposit_at place held =
    record {
      brokered = is_brokered place;
      coupon = held.coupon;
      penalty = held.penalty;
      months = held.remaining_months;
    }

-- the shifted retail rate of a place's column in a month (02:CR 3), hundredths of a percent a year
unfoldable pub rate_at : Contents → ℕ → ℕ → ℕ → ℕ
rate_at k scenario place month = shifted_rate scenario (retail_rate k (position_of place).column month)

-- the terms of what a place holds in a scenario, 0 to 6, under a filing's rates and tiers
unfoldable pub terms_held : Contents → ℕ → ℕ → SubBalance → Terms
terms_held k scenario place held = terms_of (filing_tiers k) (deposit_at place held) (rate_at k scenario place)

-- the CD yield of a month in a scenario, hundredths of a percent a year
unfoldable pub month_yield : Contents → ℕ → ℕ → ℕ
month_yield k scenario month = shifted_rate scenario (cd_yield k month)
