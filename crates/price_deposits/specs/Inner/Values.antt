-- The values of a balance, dollars, with discount factors from a list (01:60). Definitions only.
use Rattle.std.specs.Prelude.{ℕ, ◌*◌, List, [], ◌∷◌}
use Rattle.lists.specs.Tables.{table, joined}
use Rattle.form.specs.Shift.{scenario_count}
use Rattle.withdrawal.specs.Tiers.{TierTable}
use Rattle.pricing.specs.Scales.{value_scale}
use Rattle.pricing.specs.Rounding.{Rounding, down, up, quotient}
use Rattle.price_deposits.specs.declared.Deposit.{Deposit}
use Rattle.price_deposits.specs.Inner.Prices.{tabled_price, shifted_path}

-- the value of a balance in thousands of dollars at a rounding, at the scenario's retail rates
unfoldable pub tabled_value : Rounding → TierTable → ℕ → Deposit → (ℕ → ℕ) → List ℕ → ℕ → ℕ
tabled_value ρ tiers balance d rate factors scenario = quotient ρ (balance * tabled_price ρ tiers d rate factors scenario) value_scale

-- lower value by lower factors, upper value by upper factors
unfoldable pub value_bounds : TierTable → ℕ → Deposit → (ℕ → ℕ) → List ℕ → List ℕ → ℕ → List ℕ
value_bounds tiers balance d rate lower upper scenario =
    tabled_value down tiers balance d rate lower scenario ∷ tabled_value up tiers balance d rate upper scenario ∷ []

-- lower and upper value in each scenario, at the retail rates of a column's months, which are shifted for each
unfoldable pub tabled_values : TierTable → ℕ → Deposit → List ℕ → ℕ → List ℕ → List ℕ → List ℕ
tabled_values tiers balance d rates column lower upper =
    joined (table scenario_count (λ (s : ℕ). value_bounds tiers balance d (shifted_path s rates column) lower upper s))
