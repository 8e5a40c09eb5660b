-- The values of the cells of a filing, and the certificates' balances among them. Definitions only.
use Rattle.std.specs.Prelude.{ℕ, ◌-◌, cond, ◌&&◌, List, map, get_or, leb}
use Rattle.form.specs.declared.Position.{Position}
use Rattle.form.specs.Cells.{first_cell, last_cell, positions, in_column}

-- the value of a cell among the cells from the first on; a number outside them has none, and is 0
unfoldable pub cell_in : List ℕ → ℕ → ℕ
cell_in cells n = cond (leb first_cell n && leb n last_cell) (get_or cells (n - first_cell) 0) 0

-- the balances of a column, row 1 first, and of all nine positions, thousands of dollars
unfoldable pub column_balances : List ℕ → ℕ → List ℕ
column_balances cells column = map (λ (p : Position). cell_in cells p.balance) (in_column column)

unfoldable pub balances : List ℕ → List ℕ
balances cells = map (λ (p : Position). cell_in cells p.balance) positions
