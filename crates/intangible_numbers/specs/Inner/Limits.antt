-- The cells and sheets of the intangible as the code holds them, with their limits, and its numbers by tables of discount factors. Definitions only.
use Rattle.std.specs.Prelude.{ℕ, suc, ◌*◌, ◌-◌, ◌≤◌, ◌<◌, cond, ◌≡◌, List, eqb, ℤ, pos, length, get_or, replicate}
use Rattle.lists.specs.Tables.{table, joined}
use Rattle.form.specs.declared.Position.{Position}
use Rattle.form.specs.Cells.{position_at}
use Rattle.form.specs.Counts.{place_value_count}
use Rattle.form.specs.Limits.{coupon_limit, months_limit, rate_count, sheet_months}
use Rattle.form.specs.Shift.{scenario_count, shifted_rates}
use Rattle.filing_cells.specs.Balances.{cell_in}
use Rattle.withdrawal.specs.declared.WithdrawalTiers.{WithdrawalTiers}
use Rattle.withdrawal.specs.Tiers.{TierTable}
use Rattle.pricing.specs.Rounding.{Rounding}
use Rattle.pricing.specs.Inner.Multipliers.{discounts_by}
use Rattle.price_factors.specs.Inner.Factors.{WithinRates}
use Rattle.intangible.specs.RollingTerms.{last_month, share_scale}
use Rattle.intangible_months.specs.declared.RetailCell.{RetailCell}
use Rattle.intangible_months.specs.Inner.Lent.{lent_terms}
use Rattle.intangible_cells.specs.Inner.Filed.{intangible_by}
use Rattle.intangible_numbers.specs.Sheets.{RollingSheets, rollover_months, yield_in}
use Rattle.intangible_numbers.specs.Numbers as numbers
use Rattle.intangible_numbers.specs.Numbers.{balance_of}

abbrev pub position_count : ℕ
position_count = numbers.position_count

-- the months whose yields kind 10 gives
abbrev pub long_months : ℕ
long_months = 240

-- a discount factor for each of 360 months and seven scenarios
abbrev pub long_factor_count : ℕ
long_factor_count = scenario_count * last_month

-- the sheets of their parts
abbrev pub sheets_of : List ℕ → List ℕ → List ℕ → List ℕ → TierTable → RollingSheets
sheets_of yields long rates shares tiers = record { yields = yields; long = long; rates = rates; shares = shares; tiers = tiers }

-- the discount factors of all months and scenarios at a rounding: those of month t stand from index 7 (t - 1) on
unfoldable pub long_factors : Rounding → List ℕ → List ℕ → List ℕ
long_factors ρ yields long = joined (table last_month (λ (month : ℕ). discounts_by ρ (shifted_rates (yield_in yields long month)) (suc month)))

-- what every cell of an accepted filing has
pub record RollingCells (cells : List ℕ) : Type 0 where
  pub coupon-le : (i : ℕ) → i < position_count → cell_in cells (position_at i).coupon ≤ coupon_limit
  pub months-le : (i : ℕ) → i < position_count → cell_in cells (position_at i).months ≤ months_limit
  pub months-pos : (i : ℕ) → i < position_count → 0 < balance_of cells i → 0 < cell_in cells (position_at i).months

-- retail rates and shares within their limits, as many as the columns have
pub record RatesFit (rates : List ℕ) : Type 0 where
  pub rate-le : WithinRates rates
  pub long : rate_count ≤ length rates

pub record WithinShares (shares : List ℕ) : Type 0 where
  pub share-le : (i : ℕ) → get_or shares i 0 ≤ share_scale
  pub long : 3 ≤ length shares

-- what every filing's sheets have
pub record RollingLimits (yields long rates shares : List ℕ) : Type 0 where
  pub yield-le : WithinRates yields
  pub long-le : WithinRates long
  pub yields-long : sheet_months ≤ length yields
  pub long-long : long_months ≤ length long
  pub rates-fit : RatesFit rates
  pub shares-fit : WithinShares shares

-- the cell at a position
unfoldable pub retail_cell : List ℕ → List ℕ → Position → RetailCell
retail_cell cells shares p =
    record {
      coupon = cell_in cells p.coupon;
      months = cell_in cells p.months;
      column = p.column;
      term = rollover_months p.column;
      share = get_or shares (p.column - 1) 0;
    }

-- a cell with a balance
pub record RollingCell (cell : RetailCell) : Type 0 where
  pub coupon-le : cell.coupon ≤ coupon_limit
  pub months-pos : 0 < cell.months
  pub months-le : cell.months ≤ months_limit
  pub column-pos : 1 ≤ cell.column
  pub column-le : cell.column ≤ 3
  pub term_is : cell.term ≡ rollover_months cell.column
  pub share-le : cell.share ≤ share_scale

-- lower and upper of a cell in each scenario, by rates, tiers and lists of discount factors
unfoldable pub lent_numbers : RetailCell → List ℕ → WithdrawalTiers → List ℕ → List ℕ → List ℤ
lent_numbers cell rates t lower upper =
    joined (table scenario_count (λ (s : ℕ). intangible_by (lent_terms cell s rates t) s lower upper))

-- the same of the cell at an index: 0s where it has no balance
unfoldable pub cell_numbers_by : List ℕ → ℕ → List ℕ → List ℕ → WithdrawalTiers → List ℕ → List ℕ → List ℤ
cell_numbers_by cells i rates shares t lower upper =
    cond (eqb (balance_of cells i) 0) (replicate place_value_count (pos 0))
    (lent_numbers (retail_cell cells shares (position_at i)) rates t lower upper)
