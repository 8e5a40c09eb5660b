-- The 374 numbers of a filing's borrowings (02:CR 8): balances in thousands of dollars, values and totals in dollars. Definitions only.
-- z scenario month is the shifted LIBOR yield of a month, from 1 on, hundredths of a percent a year.
use Rattle.std.specs.Prelude.{ℕ, ◌+◌, ◌*◌, List, [], ◌∷◌, ◌++◌}
use Rattle.lists.specs.Sums.{sum_where, everywhere}
use Rattle.lists.specs.Tables.{table, joined}
use Rattle.form.specs.Borrowings.{borrowing_count}
use Rattle.form.specs.Counts.{place_number_count}
use Rattle.form.specs.Shift.{scenario_count}
use Rattle.pricing.specs.Rounding.{Rounding, down, up}
use Rattle.filing_contents.specs.Contents.{Contents}
use Rattle.borrowing_numbers.specs.Borrowed.{libor_rate, balance_of, borrowed_by}

-- the totals begin behind the fifteen numbers of each borrowing, and are two in each scenario
abbrev pub borrowing_totals_start : ℕ
borrowing_totals_start = place_number_count * borrowing_count

abbrev pub borrowing_number_count : ℕ
borrowing_number_count = borrowing_totals_start + 2 * scenario_count

-- lower and upper value of a borrowing in a scenario
unfoldable pub bounds_of : List ℕ → (ℕ → ℕ → ℕ) → ℕ → ℕ → List ℕ
bounds_of cells z i scenario = borrowed_by down cells z scenario i ∷ borrowed_by up cells z scenario i ∷ []

-- the fifteen numbers of a borrowing: its balance, then lower and upper for each scenario
unfoldable pub borrowing_numbers : List ℕ → (ℕ → ℕ → ℕ) → ℕ → List ℕ
borrowing_numbers cells z i = balance_of cells i ∷ joined (table scenario_count (bounds_of cells z i))

-- the total over the twenty-four at a rounding, and the lower and the upper one of a scenario
unfoldable pub total_by : Rounding → List ℕ → (ℕ → ℕ → ℕ) → ℕ → ℕ
total_by ρ cells z scenario = sum_where everywhere (borrowed_by ρ cells z scenario) borrowing_count

unfoldable pub totals_of : List ℕ → (ℕ → ℕ → ℕ) → ℕ → List ℕ
totals_of cells z scenario = total_by down cells z scenario ∷ total_by up cells z scenario ∷ []

unfoldable pub numbers : List ℕ → (ℕ → ℕ → ℕ) → List ℕ
numbers cells z = joined (table borrowing_count (borrowing_numbers cells z)) ++ joined (table scenario_count (totals_of cells z))

-- the 374 numbers of what a filing says
unfoldable pub borrowed_numbers : Contents → List ℕ
borrowed_numbers k = numbers k.cells (libor_rate k)
