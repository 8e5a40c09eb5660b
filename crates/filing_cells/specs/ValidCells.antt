-- What holds of the cells of every accepted filing: each limit (01:24; of a coupon 02:CR 4), in the
-- units of Limits, and conditions 7 to 9 (01:37-39). Definitions only.
use Rattle.std.specs.Prelude.{ℕ, ◌≤◌, ◌<◌, ◌≡◌, List, T}
use Rattle.lists.specs.Sums.{sum}
use Rattle.form.specs.Cells.{position_at, within_row, brokered_cell, penalty_balance_cell, penalty_months_cell, total_cell}
use Rattle.form.specs.Limits.{balance_limit, coupon_limit, months_limit, penalty_limit}
use Rattle.filing_cells.specs.Balances.{cell_in, column_balances, balances}

-- i: one of the nine positions, 0 to 8; j: a column, 1 to 3
pub record ValidCells (cells : List ℕ) : Type 0 where
  pub balance-limit : (i : ℕ) → i < 9 → cell_in cells (position_at i).balance ≤ balance_limit
  pub coupon-limit : (i : ℕ) → i < 9 → cell_in cells (position_at i).coupon ≤ coupon_limit
  pub months-limit : (i : ℕ) → i < 9 → cell_in cells (position_at i).months ≤ months_limit
  pub months-in-row : (i : ℕ) → i < 9 → 0 < cell_in cells (position_at i).balance → T (within_row (position_at i).row (cell_in cells (position_at i).months))
  pub penalty-limit : (j : ℕ) → 1 ≤ j → j ≤ 3 → cell_in cells (penalty_months_cell j) ≤ penalty_limit
  pub brokered-within : (j : ℕ) → 1 ≤ j → j ≤ 3 → cell_in cells (brokered_cell j) ≤ sum (column_balances cells j)
  pub penalized-within : (j : ℕ) → 1 ≤ j → j ≤ 3 → cell_in cells (penalty_balance_cell j) ≤ sum (column_balances cells j)
  pub total-is-sum : cell_in cells total_cell ≡ sum (balances cells)
