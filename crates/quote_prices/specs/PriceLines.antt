-- Printed price lines (02:CR 12): months, and a price in 64-bit floats for each of the seven scenarios; which prices are faulty. Definitions only.
use Rattle.std.specs.Prelude.{ℕ, Bool, not, ◌&&◌, pos, Float, get_or}
use Rattle.std.specs.Float.{nan, binary64}
use Rattle.std.specs.Float.Ieee.{lt, le, of_int}
use Rattle.lists.specs.Tables.{any_below}
use Rattle.form.specs.Shift.{scenario_count}
use Rattle.quote_prices.specs.declared.PriceLine.{PriceLine}

-- the price of a line in a scenario, 0 to 6
abbrev pub price_in : PriceLine → ℕ → Float
price_in line scenario = get_or line.prices scenario nan

-- a whole number as a float: exact up to 2^53
abbrev pub whole : ℕ → Float
whole n = of_int binary64 (pos n)

-- the most that a price may be
abbrev pub price_limit : ℕ
price_limit = 1000

-- a price that is not both above 0 and at most 1,000; what is not a number is neither
unfoldable pub faulty_price : Float → Bool
faulty_price p = not (lt (whole 0) p && le p (whole price_limit))

-- one of the prices of a line is faulty
unfoldable pub faulty_prices : PriceLine → Bool
faulty_prices line = any_below (λ (scenario : ℕ). faulty_price (price_in line scenario)) scenario_count
