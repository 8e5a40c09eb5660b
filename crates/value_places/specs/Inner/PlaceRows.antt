-- The values of what a place holds, with discount factors from lists (01:60-61). Definitions only.
use Rattle.std.specs.Prelude.{ℕ, List, ◌∷◌}
use Rattle.form.specs.declared.sub_balances.SubBalance.{SubBalance}
use Rattle.form.specs.PlaceOrder.{position_of}
use Rattle.withdrawal.specs.Tiers.{TierTable}
use Rattle.price_deposits.specs.Inner.Values.{tabled_values}
use Rattle.value_places.specs.PlaceTerms.{deposit_at}

-- lower and upper value in each scenario of what a place holds
unfoldable pub tabled_held : SubBalance → ℕ → List ℕ → TierTable → List ℕ → List ℕ → List ℕ
tabled_held held place rates tiers lower upper = tabled_values tiers held.balance (deposit_at place held) rates (position_of place).column lower upper

-- its balance, and then these
unfoldable pub row_of : SubBalance → ℕ → List ℕ → TierTable → List ℕ → List ℕ → List ℕ
row_of held place rates tiers lower upper = held.balance ∷ tabled_held held place rates tiers lower upper
