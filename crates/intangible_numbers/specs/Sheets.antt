-- What the intangible takes from a filing (02:CR 9), and the terms of a cell in a scenario. Definitions only.
use Rattle.std.specs.Prelude.{ℕ, ◌-◌, cond, List, [], ◌∷◌, ltb, get_or}
use Rattle.form.specs.Cells.{position_at}
use Rattle.form.specs.Limits.{sheet_months}
use Rattle.form.specs.Shift.{shifted_rate}
use Rattle.filing_cells.specs.Balances.{cell_in}
use Rattle.withdrawal.specs.Gain.{gain, cost}
use Rattle.withdrawal.specs.Tiers.{TierTable}
use Rattle.withdrawal.specs.MonthSurvival.{retail, early_survival}
use Rattle.price_deposits.specs.DepositTerms.{servicing_cost}
use Rattle.intangible.specs.RollingTerms.{RollingTerms, last_month}
use Rattle.intangible_months.specs.Rates.{rolling_rate}

-- yields and rates in hundredths of a percent a year, not shifted
pub record RollingSheets : Type 0 where
  -- CD yields of months 1 to 120 (kind 2), and of months 121 to 360 (kind 10)
  pub yields : List ℕ
  pub long : List ℕ
  -- retail rates of months 1 to 120, column by column (kinds 3 and 5)
  pub rates : List ℕ
  -- the rollover share of each column (kind 9), thousandths
  pub shares : List ℕ
  -- the tiers by which retail deposits are withdrawn, the filing's own or the house's
  pub tiers : TierTable

-- the months of a term that a rollover opens in a column, 1 to 3 (003, Table 6.A.2)
unfoldable pub rollover_months : ℕ → ℕ
rollover_months column = get_or (0 ∷ 6 ∷ 24 ∷ 48 ∷ []) column 0

-- the CD yield of a month, counted from 0
unfoldable pub yield_in : List ℕ → List ℕ → ℕ → ℕ
yield_in yields long month = cond (ltb month sheet_months) (get_or yields month 0) (get_or long (month - sheet_months) 0)

-- the CD yield of a month, 1 to 360, in a scenario, shifted
unfoldable pub long_yield : RollingSheets → ℕ → ℕ → ℕ
long_yield x scenario month = shifted_rate scenario (yield_in x.yields x.long (month - 1))

-- the terms of the cell at a position, 0 to 8, in a scenario, 0 to 6: the retail run without penalty, with its column's share and terms
unfoldable pub cell_terms : List ℕ → RollingSheets → ℕ → ℕ → RollingTerms
cell_terms cells x scenario i =
    record {
      coupon = cell_in cells (position_at i).coupon;
      months = cell_in cells (position_at i).months;
      term = rollover_months (position_at i).column;
      share = get_or x.shares ((position_at i).column - 1) 0;
      servicing = servicing_cost retail;
      rate = rolling_rate x.rates (position_at i).column scenario;
      survival = λ (c r n : ℕ). early_survival x.tiers retail (gain c 0 r n) (cost c n);
      horizon = last_month;
    }
