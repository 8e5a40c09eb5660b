-- The lines of cells and of an unreadable line, as ASCII bytes (02:CR 5). Definitions only.
use Rattle.std.specs.Prelude.{ℕ, List, [], ◌∷◌, map, ◌++◌}
use Rattle.lists.specs.Tables.{joined}
use Rattle.certificate_cells.specs.declared.filled_cells.CellValue.{CellValue}
use Rattle.text.specs.Decimal.{decimal}
use Rattle.text.specs.Lines.{rest_of_line, unreadable_word}

-- a cell and its value
unfoldable pub cell_line : CellValue → List ℕ
cell_line c = decimal c.cell ++ rest_of_line (c.value ∷ [])

unfoldable pub cell_lines : List CellValue → List ℕ
cell_lines cells = joined (map cell_line cells)

-- `unreadable` and the line's number
unfoldable pub unreadable_text : ℕ → List ℕ
unreadable_text line = unreadable_word ++ rest_of_line (line ∷ [])
