-- Price lines in bytes (02:CR 12): months in 2 bytes, then seven prices, 64-bit floats of 8 bytes each, little-endian. Definitions only.
use Rattle.std.specs.Prelude.{ℕ, ◌+◌, ◌*◌, ◌/◌, ◌%◌, List, Float, length}
use Rattle.std.specs.Float.{binary64}
use Rattle.std.specs.Float.Ieee.{of_bits}
use Rattle.lists.specs.Tables.{table}
use Rattle.form.specs.Shift.{scenario_count}
use Rattle.record_fields.specs.Bytes.{number_at}
use Rattle.quote_prices.specs.declared.PriceLine.{PriceLine}

-- the bytes of a line
abbrev pub line_bytes : ℕ
line_bytes = 58

-- the months of line i, from 0
unfoldable pub months_in : List ℕ → ℕ → ℕ
months_in s i = number_at s (line_bytes * i) 2

-- the bits of the price of line i in scenario k
unfoldable pub bits_in : List ℕ → ℕ → ℕ → ℕ
bits_in s i k = number_at s (line_bytes * i + (2 + 8 * k)) 8

unfoldable pub price_in : List ℕ → ℕ → ℕ → Float
price_in s i k = of_bits binary64 (bits_in s i k)

-- price number j of all lines, seven of each
unfoldable pub price_at : List ℕ → ℕ → Float
price_at s j = price_in s (j / scenario_count) (j % scenario_count)

unfoldable pub line_in : List ℕ → ℕ → PriceLine
line_in s i = record { months = months_in s i; prices = table scenario_count (price_in s i) }

-- the whole lines in the bytes
unfoldable pub lines_in : List ℕ → List PriceLine
lines_in s = table (length s / line_bytes) (line_in s)
