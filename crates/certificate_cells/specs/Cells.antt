-- The cells that sums of positions fill (02:CR 5), by ascending number: balance, WAC and WARM of each position that does not sum to 0, and the total.
-- Definitions only.
use Rattle.std.specs.Prelude.{ℕ, suc, ◌-◌, Bool, cond, not, ◌||◌, List, map, take, eqb}
use Rattle.lists.specs.Sums.{sum}
use Rattle.lists.specs.Tables.{table_from, those, padded}
use Rattle.form.specs.Cells.{position_at, first_cell, total_cell}
use Rattle.form.specs.Classes.{cell_class}
use Rattle.certificate_cells.specs.declared.filled_cells.Totals.{Totals}
use Rattle.certificate_cells.specs.declared.filled_cells.Cells.{Cells}
use Rattle.certificate_cells.specs.declared.filled_cells.CellValue.{CellValue}
use Rattle.certificate_cells.specs.Means.{balance_at, coupon_at, months_at}
use Rattle.lists.specs.Ranges.{within, first_from}

-- a cell with its class and the index of its position
pub record FormCell : Type 0 where
  pub cell : ℕ
  pub class : ℕ
  pub position : ℕ

-- a cell that certificates can fill: a balance, a WAC, a WARM or the total (classes 1, 2, 3 and 6)
unfoldable pub is_filled : ℕ → Bool
is_filled cell = within 1 3 (cell_class cell) || eqb (cell_class cell) 6

-- so many numbers of cells go from the first to the total
abbrev pub form_count : ℕ
form_count = suc total_cell - first_cell

-- a cell is the balance, the WAC or the WARM of the position at an index
unfoldable pub is_of_position : ℕ → ℕ → Bool
is_of_position cell i = eqb (position_at i).balance cell || (eqb (position_at i).coupon cell || eqb (position_at i).months cell)

-- the index, 0 to 8, of the position that a cell belongs to; 9 for the total
unfoldable pub position_with : ℕ → ℕ
position_with cell = first_from 0 9 (is_of_position cell)

unfoldable pub form_cell : ℕ → FormCell
form_cell n = record { cell = n; class = cell_class n; position = position_with n }

-- the cells that certificates can fill, by ascending number: those from the first cell to the total
unfoldable pub form_cells : List FormCell
form_cells = map form_cell (those is_filled (table_from first_cell form_count (λ (n : ℕ). n)))

-- a cell is handed back: the total always, another where its position does not sum to 0
unfoldable pub is_present : Totals → FormCell → Bool
is_present t e = eqb e.cell total_cell || not (eqb (balance_at t e.position) 0)

-- what a cell holds, by its class
unfoldable pub value_of : Totals → FormCell → ℕ
value_of t e =
    cond (eqb e.class 1) (balance_at t e.position)
    (cond (eqb e.class 2) (coupon_at t e.position)
    (cond (eqb e.class 3) (months_at t e.position) (sum t.balance)))

unfoldable pub cell_value : Totals → FormCell → CellValue
cell_value t e = record { cell = e.cell; value = value_of t e }

-- the cells of some sums, by ascending number
unfoldable pub cells_of : Totals → List CellValue
cells_of t = map (cell_value t) (those (is_present t) form_cells)

-- no cell
abbrev pub no_cell : CellValue
no_cell = record { cell = 0; value = 0 }

-- cells in an array of 28, which is as many as there can be: no cell past the last
abbrev pub cell_array : List CellValue → List CellValue
cell_array l = padded 28 no_cell l

-- the cells that are counted
abbrev pub items_of : Cells → List CellValue
items_of c = take c.count c.cells
