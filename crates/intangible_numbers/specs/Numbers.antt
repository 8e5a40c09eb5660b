-- The 126 numbers of the intangible (02:CR 9): nine cells ascending, scenario by scenario, lower then upper; millionths of the opening balance.
-- A scenario is one of 0 to 6, a cell one of the nine positions, 0 to 8. Definitions only.
use Rattle.std.specs.Prelude.{ℕ, ◌*◌, cond, List, [], ◌∷◌, eqb, ℤ, pos}
use Rattle.lists.specs.Tables.{table, joined}
use Rattle.fraction.specs.Signed.{SignedFraction, none}
use Rattle.form.specs.Cells.{position_at}
use Rattle.form.specs.Counts.{place_value_count}
use Rattle.form.specs.Shift.{scenario_count}
use Rattle.filing_cells.specs.Balances.{cell_in}
use Rattle.intangible.specs.Exact.{exact_intangible}
use Rattle.intangible.specs.Run.{lower_intangible, upper_intangible}
use Rattle.intangible_numbers.specs.Sheets.{RollingSheets, long_yield, cell_terms}

-- how many cells there are, and numbers
abbrev pub position_count : ℕ
position_count = 9

abbrev pub intangible_count : ℕ
intangible_count = place_value_count * position_count

-- the balance of a cell, as filed, thousands of dollars: it decides only whether the numbers are 0
unfoldable pub balance_of : List ℕ → ℕ → ℕ
balance_of cells i = cell_in cells (position_at i).balance

-- the exact intangible of a cell in a scenario, and at either rounding: a cell with balance 0 gives 0
unfoldable pub exact_at : List ℕ → RollingSheets → ℕ → ℕ → SignedFraction
exact_at cells x scenario i = cond (eqb (balance_of cells i) 0) none (exact_intangible (cell_terms cells x scenario i) (long_yield x scenario))

unfoldable pub lower_at : List ℕ → RollingSheets → ℕ → ℕ → ℤ
lower_at cells x scenario i = cond (eqb (balance_of cells i) 0) (pos 0) (lower_intangible (cell_terms cells x scenario i) (long_yield x scenario))

unfoldable pub upper_at : List ℕ → RollingSheets → ℕ → ℕ → ℤ
upper_at cells x scenario i = cond (eqb (balance_of cells i) 0) (pos 0) (upper_intangible (cell_terms cells x scenario i) (long_yield x scenario))

-- lower and upper in a scenario, in each of the seven, and of all cells
unfoldable pub bounds_of : List ℕ → RollingSheets → ℕ → ℕ → List ℤ
bounds_of cells x i scenario = lower_at cells x scenario i ∷ upper_at cells x scenario i ∷ []

unfoldable pub cell_numbers : List ℕ → RollingSheets → ℕ → List ℤ
cell_numbers cells x i = joined (table scenario_count (bounds_of cells x i))

unfoldable pub numbers : List ℕ → RollingSheets → List ℤ
numbers cells x = joined (table position_count (cell_numbers cells x))
