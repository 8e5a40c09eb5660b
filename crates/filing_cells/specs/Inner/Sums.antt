-- The columns' sums of balances, thousands of dollars, position by position. Definitions only.
use Rattle.std.specs.Prelude.{ℕ, ◌≤◌, ◌<◌, List, eqb}
use Rattle.lists.specs.Sums.{sum_where}
use Rattle.lists.specs.Tables.{table_from, table}
use Rattle.form.specs.Cells.{position_at}
use Rattle.form.specs.Limits.{balance_limit}
use Rattle.filing_cells.specs.declared.column_sums.ColumnSums.{ColumnSums}
use Rattle.filing_cells.specs.Balances.{cell_in}

-- each of the nine balances is within its limit
abbrev pub BalancesWithin : List ℕ → Type 0
BalancesWithin cells = (i : ℕ) → i < 9 → cell_in cells (position_at i).balance ≤ balance_limit

-- the sum of a column's balances at the positions before `end`, 0 to 9
unfoldable pub column_sum : List ℕ → ℕ → ℕ → ℕ
column_sum cells column end =
    sum_where (λ (i : ℕ). eqb (position_at i).column column) (λ (i : ℕ). cell_in cells (position_at i).balance) end

-- the sums of columns 1 to 3, and of each position's column before it
unfoldable pub column_sums : List ℕ → ColumnSums
column_sums cells =
    record {
      totals = table_from 1 3 (λ (column : ℕ). column_sum cells column 9);
      above = table 9 (λ (i : ℕ). column_sum cells (position_at i).column i);
    }
