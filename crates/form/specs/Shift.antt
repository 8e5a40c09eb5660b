-- The seven scenarios (01:48), numbered 0 to 6: shifts of -300, -200, .., 300 hundredths of a percent a year; and the rates that are shifted month by
-- month (02:CR 3). Definitions only.
use Rattle.std.specs.Prelude.{ℕ, ◌+◌, ◌*◌, ◌-◌, List, get_or}
use Rattle.lists.specs.Tables.{table}
use Rattle.form.specs.Limits.{sheet_months}

abbrev pub scenario_count : ℕ
scenario_count = 7

-- a yield or retail rate under a scenario, hundredths of a percent a year: rate + 100 × number - 300. The difference of whole numbers stops
-- at 0, as a result below 0 counts as 0
unfoldable pub shifted_rate : ℕ → ℕ → ℕ
shifted_rate number rate = rate + 100 * number - 300

-- a yield or retail rate in each of the scenarios
unfoldable pub shifted_rates : ℕ → List ℕ
shifted_rates rate = table scenario_count (λ (number : ℕ). shifted_rate number rate)

-- the largest shifted rate: the limit of 01:24 and the highest shift, hundredths of a percent a year
abbrev pub shifted_limit : ℕ
shifted_limit = 2800

-- of retail rates by month, column by column (02:CR 3): the rate of a column, from 1, in a month, from 1, hundredths of a percent a year
unfoldable pub path_rate : List ℕ → ℕ → ℕ → ℕ
path_rate rates column month = get_or rates (sheet_months * (column - 1) + (month - 1)) 0
