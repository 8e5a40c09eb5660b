-- The values of what a place holds, under a filing's sheets and tiers (01:55-61): lower, upper and exact, dollars. Definitions only.
use Rattle.std.specs.Prelude.{ℕ, List, [], ◌∷◌}
use Rattle.lists.specs.Tables.{table, joined}
use Rattle.fraction.specs.Fraction.{Fraction}
use Rattle.form.specs.Shift.{scenario_count}
use Rattle.filing_contents.specs.Contents.{Contents}
use Rattle.form.specs.declared.sub_balances.SubBalance.{SubBalance}
use Rattle.pricing.specs.Rounding.{Rounding, down, up}
use Rattle.pricing.specs.Exact.{exact_value}
use Rattle.pricing.specs.Run.{value_by}
use Rattle.value_places.specs.PlaceTerms.{terms_held, month_yield}

-- the exact value in a scenario, 0 to 6, of what place 0 to 35 holds, from its balance, coupon, months and penalty
unfoldable pub exact_held : Contents → ℕ → ℕ → SubBalance → Fraction
exact_held k scenario place held = exact_value held.balance (terms_held k scenario place held) (month_yield k scenario)

-- its value at a rounding, whole dollars
unfoldable pub value_held : Rounding → Contents → ℕ → ℕ → SubBalance → ℕ
value_held ρ k scenario place held = value_by ρ held.balance (terms_held k scenario place held) (month_yield k scenario)

-- lower and upper in a scenario, and in each of the seven
unfoldable pub bounds_held : Contents → ℕ → SubBalance → ℕ → List ℕ
bounds_held k place held scenario = value_held down k scenario place held ∷ value_held up k scenario place held ∷ []

unfoldable pub values_held : Contents → ℕ → SubBalance → List ℕ
values_held k place held = joined (table scenario_count (bounds_held k place held))
