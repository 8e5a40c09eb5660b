-- The classes of cells, sixteen to a number. Definitions only.
use Rattle.std.specs.Prelude.{ℕ, ◌+◌, ◌*◌, List, [], ◌∷◌}
use Rattle.lists.specs.Tables.{table_from}
use Rattle.form.specs.Cells.{first_cell}
use Rattle.form.specs.Classes.{cell_class}

-- the number that hexadecimal digits make, the lowest first
unfoldable pub hexadecimal : List ℕ → ℕ
hexadecimal [] = 0
hexadecimal (x ∷ xs) = x + 16 * hexadecimal xs

-- the classes of sixteen cells, a digit each: those of part 0 from the first cell on, those of part 1 behind them, and so on
unfoldable pub sixteen_classes : ℕ → ℕ
sixteen_classes part = hexadecimal (table_from (first_cell + 16 * part) 16 cell_class)
