-- The terms of a deposit (01:49-56). Definitions only.
use Rattle.std.specs.Prelude.{ℕ, ◌*◌}
use Rattle.withdrawal.specs.Tiers.{TierTable}
use Rattle.withdrawal.specs.MonthSurvival.{Account, retail, brokered, account_of, month_survival}
use Rattle.pricing.specs.Scales.{coupon_growth}
use Rattle.pricing.specs.Terms.{Terms}
use Rattle.price_deposits.specs.declared.Deposit.{Deposit}

-- a (01:55): the month's servicing cost, billionths of the balance
unfoldable pub servicing_cost : Account → ℕ
servicing_cost retail = 175000
servicing_cost brokered = 19000

-- the terms of a deposit at the shifted retail rates of the months (02:CR 3), with the tiers by which retail deposits are withdrawn: the gain at the end of
-- month t is at month t's rate
unfoldable pub terms_of : TierTable → Deposit → (ℕ → ℕ) → Terms
terms_of tiers d rate =
    record {
      growth = coupon_growth * d.coupon;
      servicing = servicing_cost (account_of d.brokered);
      months = d.months;
      survival = λ (t : ℕ). month_survival tiers (account_of d.brokered) d.coupon d.penalty (rate t) d.months t;
    }
