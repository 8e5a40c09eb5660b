-- The lower and upper values of a filing's sub-balances and their totals (01:60-61), whole dollars. Definitions only.
use Rattle.std.specs.Prelude.{ℕ, Bool}
use Rattle.lists.specs.Sums.{sum_where}
use Rattle.filing_contents.specs.Contents.{Contents}
use Rattle.form.specs.PlaceOrder.{sub_balance_count}
use Rattle.shares.specs.Places.{place_at}
use Rattle.pricing.specs.Rounding.{Rounding}
use Rattle.value_places.specs.HeldValues.{value_held}

-- the value of the sub-balance at a place, 0 to 35, in a scenario, 0 to 6
unfoldable pub value_at : Rounding → Contents → ℕ → ℕ → ℕ
value_at ρ k scenario place = value_held ρ k scenario place (place_at k.cells place)

-- the total over the places that pass a test
unfoldable pub total_by : Rounding → (ℕ → Bool) → Contents → ℕ → ℕ
total_by ρ test k scenario = sum_where test (value_at ρ k scenario) sub_balance_count
