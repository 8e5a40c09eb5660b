-- The row of a position (01:44-45), and a place of it, thousands of dollars. Definitions only.
use Rattle.std.specs.Prelude.{ℕ, List}
use Rattle.form.specs.Cells.{position_at, brokered_cell, penalty_balance_cell, penalty_months_cell}
use Rattle.filing_cells.specs.Balances.{cell_in}
use Rattle.filing_cells.specs.Inner.Sums.{column_sum}
use Rattle.form.specs.declared.sub_balances.SubBalance.{SubBalance}
use Rattle.form.specs.Places.{no_values}
use Rattle.shares.specs.declared.apportion.Row.{Row}

-- the row of the i-th position, 0 to 8, among the cells of a filing
unfoldable pub row_at : List ℕ → ℕ → Row
row_at cells i =
    record {
      total = column_sum cells (position_at i).column 9;
      above = column_sum cells (position_at i).column i;
      balance = cell_in cells (position_at i).balance;
      brokered = cell_in cells (brokered_cell (position_at i).column);
      penalized = cell_in cells (penalty_balance_cell (position_at i).column);
      coupon = cell_in cells (position_at i).coupon;
      remaining_months = cell_in cells (position_at i).months;
      penalty = cell_in cells (penalty_months_cell (position_at i).column);
    }

-- a place of a row, with its balance and its penalty
abbrev pub row_place : Row → ℕ → ℕ → SubBalance
row_place row balance penalty =
    record { balance = balance; coupon = row.coupon; remaining_months = row.remaining_months; penalty = penalty; values = no_values }
