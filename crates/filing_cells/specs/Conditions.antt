-- What can be wrong with the certificates among the cells of a filing: refusals 7 to 9 (01:37-39). Definitions only.
use Rattle.std.specs.Prelude.{ℕ, Bool, not, ◌&&◌, List, ltb, eqb}
use Rattle.lists.specs.Sums.{sum}
use Rattle.form.specs.declared.Position.{Position}
use Rattle.form.specs.Cells.{within_row, total_cell}
use Rattle.filing_cells.specs.Balances.{cell_in, column_balances, balances}

-- 7: a balance that is not zero, with remaining months (WARM) outside its row
unfoldable pub months_outside : List ℕ → Position → Bool
months_outside cells p = not (eqb (cell_in cells p.balance) 0) && not (within_row p.row (cell_in cells p.months))

-- 8: a cell with a column's brokered or penalty balance is above the sum of the column
unfoldable pub above_column : List ℕ → ℕ → ℕ → Bool
above_column cells column n = ltb (sum (column_balances cells column)) (cell_in cells n)

-- 9: cell 645 differs from the sum of the nine balances
unfoldable pub total_differs : List ℕ → Bool
total_differs cells = not (eqb (cell_in cells total_cell) (sum (balances cells)))
