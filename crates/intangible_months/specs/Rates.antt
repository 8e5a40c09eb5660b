-- The retail rates and the terms of the months to 360 (02:CR 9). Definitions only.
use Rattle.std.specs.Prelude.{ℕ, min, List}
use Rattle.form.specs.Limits.{sheet_months}
use Rattle.form.specs.Shift.{shifted_rate, path_rate}

-- the retail rate of a column, 1 to 3, in a scenario, 0 to 6, and a month, from 1 on, hundredths of a percent a year: month 120's lasts onward
unfoldable pub rolling_rate : List ℕ → ℕ → ℕ → ℕ → ℕ
rolling_rate rates column scenario month = shifted_rate scenario (path_rate rates column (min month sheet_months))
