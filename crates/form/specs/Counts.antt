-- How many numbers a valued filing has (01:61), where its totals begin, and how many factors there are. Definitions only.
use Rattle.std.specs.Prelude.{ℕ, suc, ◌+◌, ◌*◌}
use Rattle.form.specs.Limits.{months_limit}
use Rattle.form.specs.Shift.{scenario_count}
use Rattle.form.specs.PlaceOrder.{sub_balance_count}

-- the values of a place: lower and upper in each scenario
abbrev pub place_value_count : ℕ
place_value_count = 2 * scenario_count

-- the numbers of a place: its balance, then its values
abbrev pub place_number_count : ℕ
place_number_count = suc place_value_count

-- the totals begin behind the numbers of all places, and are four in each scenario
abbrev pub totals_start : ℕ
totals_start = place_number_count * sub_balance_count

abbrev pub total_count : ℕ
total_count = 4 * scenario_count

-- all of them
abbrev pub number_count : ℕ
number_count = totals_start + total_count

-- the discount factors, one for each month and scenario
abbrev pub factor_count : ℕ
factor_count = scenario_count * months_limit
