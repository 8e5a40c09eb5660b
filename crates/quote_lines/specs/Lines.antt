-- Lists of price lines (02:CR 12), and the lines of two lists of plain numbers. Definitions only.
use Rattle.std.specs.Prelude.{ℕ, ◌+◌, ◌*◌, ◌/◌, min, List, [], Float, length, get_or}
use Rattle.std.specs.Float.{nan}
use Rattle.lists.specs.Tables.{table}
use Rattle.form.specs.Shift.{scenario_count}
use Rattle.quote_prices.specs.declared.PriceLine.{PriceLine}

-- line i, from 0; past the last one a line without prices
unfoldable pub line_at : List PriceLine → ℕ → PriceLine
line_at lines i = get_or lines i (record { months = 0; prices = [] })

-- the months of line i
abbrev pub months_at : List PriceLine → ℕ → ℕ
months_at lines i = (line_at lines i).months

-- two lists, the months of each line and seven prices for each line, make as many lines as both of them have
unfoldable pub line_count : List ℕ → List Float → ℕ
line_count months prices = min (length months) (length prices / scenario_count)

-- line i of them
unfoldable pub line_in : List ℕ → List Float → ℕ → PriceLine
line_in months prices i = record { months = get_or months i 0; prices = table scenario_count (λ (k : ℕ). get_or prices (scenario_count * i + k) nan) }

unfoldable pub lines_of : List ℕ → List Float → List PriceLine
lines_of months prices = table (line_count months prices) (line_in months prices)
