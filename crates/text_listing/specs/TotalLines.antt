-- The lines of the seven scenarios, of a list that holds their totals from an index on: as many for each scenario, in dollars. Definitions only.
use Rattle.std.specs.Prelude.{ℕ, ◌+◌, ◌*◌, List, ◌++◌, ℤ, take, drop}
use Rattle.std.proofs.Math.IntN.{sub_ℕ}
use Rattle.lists.specs.Tables.{table, joined}
use Rattle.form.specs.Shift.{scenario_count}
use Rattle.text.specs.Decimal.{signed}
use Rattle.text.specs.Lines.{rest_of_line}

-- the shift of a scenario: -300, -200, .., 300 (01:48)
unfoldable pub shift : ℕ → ℤ
shift scenario = sub_ℕ (100 * scenario) 300

-- the totals of a scenario: so many each
unfoldable pub totals_in : List ℕ → ℕ → ℕ → ℕ → List ℕ
totals_in l from each scenario = take each (drop (from + each * scenario) l)

-- the line of a scenario: its shift and its totals
unfoldable pub line_in : List ℕ → ℕ → ℕ → ℕ → List ℕ
line_in l from each scenario = signed (shift scenario) ++ rest_of_line (totals_in l from each scenario)

unfoldable pub lines_in : List ℕ → ℕ → ℕ → List ℕ
lines_in l from each = joined (table scenario_count (line_in l from each))
