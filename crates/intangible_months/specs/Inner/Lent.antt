-- The terms of the intangible as the code holds them: a cell, rates and tiers. Definitions only.
use Rattle.std.specs.Prelude.{ℕ, List}
use Rattle.withdrawal.specs.declared.WithdrawalTiers.{WithdrawalTiers}
use Rattle.withdrawal.specs.Gain.{gain, cost}
use Rattle.withdrawal.specs.Tiers.{annual_withdrawal}
use Rattle.withdrawal.specs.MonthSurvival.{retail}
use Rattle.withdrawal.specs.Inner.TierArrays.{tier_table_of}
use Rattle.price_deposits.specs.DepositTerms.{servicing_cost}
use Rattle.intangible.specs.RollingTerms.{RollingTerms, last_month}
use Rattle.intangible_months.specs.declared.RetailCell.{RetailCell}
use Rattle.intangible_months.specs.Rates.{rolling_rate}

-- q before the last month of a term, billionths, by its coupon, the month's rate and the months left, without a penalty: what survives at the tier that is
-- reached, by the survivals that stand beside the edges
unfoldable pub lent_survival : WithdrawalTiers → ℕ → ℕ → ℕ → ℕ
lent_survival t c r n = annual_withdrawal (tier_table_of t.count t.edges t.survivals t.retained) (gain c 0 r n) (cost c n)

-- the terms of a cell in a scenario
unfoldable pub lent_terms : RetailCell → ℕ → List ℕ → WithdrawalTiers → RollingTerms
lent_terms cell scenario rates t =
    record {
      coupon = cell.coupon;
      months = cell.months;
      term = cell.term;
      share = cell.share;
      servicing = servicing_cost retail;
      rate = rolling_rate rates cell.column scenario;
      survival = lent_survival t;
      horizon = last_month;
    }
