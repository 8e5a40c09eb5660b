-- The 568 numbers of a valued filing (01:61): balances in thousands of dollars, values and totals in dollars. Definitions only.
use Rattle.std.specs.Prelude.{ℕ, List, [], ◌∷◌, ◌++◌}
use Rattle.lists.specs.Tables.{table, joined}
use Rattle.form.specs.Shift.{scenario_count}
use Rattle.filing_contents.specs.Contents.{Contents}
use Rattle.form.specs.PlaceOrder.{sub_balance_count, is_short, is_long}
use Rattle.shares.specs.SubBalances.{balance_at}
use Rattle.pricing.specs.Rounding.{down, up}
use Rattle.value_numbers.specs.Run.{value_at, total_by}

-- lower and upper value of a place in a scenario
unfoldable pub values_of : Contents → ℕ → ℕ → List ℕ
values_of k place scenario = value_at down k scenario place ∷ value_at up k scenario place ∷ []

-- the 15 numbers of a place: its balance, then lower and upper for each scenario
unfoldable pub place_numbers : Contents → ℕ → List ℕ
place_numbers k place = balance_at k.cells place ∷ joined (table scenario_count (values_of k place))

-- the four totals of a scenario: short lower, short upper, long lower, long upper
unfoldable pub scenario_totals : Contents → ℕ → List ℕ
scenario_totals k scenario =
    total_by down is_short k scenario
    ∷ total_by up is_short k scenario
    ∷ total_by down is_long k scenario
    ∷ total_by up is_long k scenario
    ∷ []

unfoldable pub numbers : Contents → List ℕ
numbers k = joined (table sub_balance_count (place_numbers k)) ++ joined (table scenario_count (scenario_totals k))
