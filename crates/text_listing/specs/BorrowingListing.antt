-- The text that the program `borrowings` prints of a filing, as ASCII bytes (02:CR 8): a line for each scenario with the borrowings' totals, or the line of
-- the refusal, or `too long`. Totals in dollars, shifts in hundredths of a percent a year. Definitions only.
use Rattle.std.specs.Prelude.{ℕ, List, ◌++◌}
use Rattle.lists.specs.Tables.{table, joined}
use Rattle.form.specs.Shift.{scenario_count}
use Rattle.filing_contents.specs.Contents.{Contents}
use Rattle.borrowing_numbers.specs.Borrowed.{libor_rate}
use Rattle.borrowing_numbers.specs.Numbers.{totals_of}
use Rattle.text.specs.Decimal.{signed}
use Rattle.text.specs.Lines.{rest_of_line}
use Rattle.text_listing.specs.TotalLines.{shift}
use Rattle.text_listing.specs.Listing.{filing_text}

-- the line of a scenario: shift, lower total, upper total
unfoldable pub borrowing_line : Contents → ℕ → List ℕ
borrowing_line k scenario = signed (shift scenario) ++ rest_of_line (totals_of k.cells (libor_rate k) scenario)

-- the lines of the seven scenarios
unfoldable pub borrowing_lines : Contents → List ℕ
borrowing_lines k = joined (table scenario_count (borrowing_line k))

-- the text of any input
unfoldable pub borrowings_text : List ℕ → List ℕ
borrowings_text s = filing_text borrowing_lines s
