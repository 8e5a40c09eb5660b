-- The values of a borrowing by tables of discount factors. Definitions only.
use Rattle.std.specs.Prelude.{ℕ, List, [], ◌∷◌}
use Rattle.lists.specs.Tables.{table, joined}
use Rattle.form.specs.Shift.{scenario_count}
use Rattle.pricing.specs.Rounding.{Rounding, down, up}
use Rattle.pricing.specs.Run.{discounted_sum, worth_by}
use Rattle.price_factors.specs.Inner.Factors.{factor_in}
use Rattle.borrowing_prices.specs.Run.{interest_by, flow_with}

-- the price at a month's interest in a scenario, by a list of factors, billionths
unfoldable pub tabled_price : Rounding → ℕ → ℕ → List ℕ → ℕ → ℕ
tabled_price ρ interest months factors scenario = discounted_sum ρ (flow_with interest months) (factor_in factors scenario) months

-- lower and upper value in dollars of a balance in a scenario, at the lower and the upper interest of a month
unfoldable pub bounds_with : ℕ → ℕ → ℕ → ℕ → List ℕ → List ℕ → ℕ → List ℕ
bounds_with balance below above months lower upper scenario =
    worth_by down balance (tabled_price down below months lower scenario) ∷ worth_by up balance (tabled_price up above months upper scenario) ∷ []

-- of a balance with a coupon, in each of the seven scenarios
unfoldable pub tabled_values : ℕ → ℕ → ℕ → List ℕ → List ℕ → List ℕ
tabled_values balance c months lower upper =
    joined (table scenario_count (bounds_with balance (interest_by down c) (interest_by up c) months lower upper))
