-- Cells as plain numbers, two for each (02:CR 5). Definitions only.
use Rattle.std.specs.Prelude.{ℕ, List, [], ◌∷◌, get_or}
use Rattle.lists.specs.Tables.{table, joined}
use Rattle.certificate_cells.specs.declared.filled_cells.CellValue.{CellValue}
use Rattle.certificate_cells.specs.Cells.{no_cell}

-- the cell at an index as two numbers: its number and its value
unfoldable pub pair_at : List CellValue → ℕ → List ℕ
pair_at l i = (get_or l i no_cell).cell ∷ (get_or l i no_cell).value ∷ []

-- at most 28 cells as numbers, two for each; 0 past the last
unfoldable pub numbers_of : List CellValue → List ℕ
numbers_of l = joined (table 28 (pair_at l))
