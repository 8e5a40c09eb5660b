-- The share of a deposit that survives a month (01:50-53). Definitions only.
use Rattle.std.specs.Prelude.{ℕ, suc, ◌-◌, Bool, cond, ltb, ℤ}
use Rattle.withdrawal.specs.Gain as of
use Rattle.withdrawal.specs.Gain.{at_most}
use Rattle.withdrawal.specs.Tiers.{TierTable, annual_withdrawal}
use Rattle.withdrawal.specs.Survival.{survival, full_survival}

-- the type of account
pub data Account : Type 0 where
  retail : Account
  brokered : Account

-- the account of a flag: brokered or not
unfoldable pub account_of : Bool → Account
account_of is_brokered = cond is_brokered brokered retail

-- before the term's end, for a gain and a cost, billionths: retail by the tiers; brokered is withdrawn whole where the gain is above the cost
unfoldable pub early_survival : TierTable → Account → ℤ → ℕ → ℕ
early_survival table retail gain cost = survival (annual_withdrawal table gain cost)
early_survival table brokered gain cost = cond (at_most (suc cost) gain) 0 full_survival

-- q of month t of a term of T months, billionths. At t = T nothing is withdrawn early
unfoldable pub month_survival : TierTable → Account → ℕ → ℕ → ℕ → ℕ → ℕ → ℕ
month_survival table account c p r T t =
    cond (ltb t T) (early_survival table account (of.gain c p r (T - t)) (of.cost c (T - t))) full_survival
