-- The whole-number run of a borrowing (02:CR 8), once over the rounding: down gives the lower figures, up the upper ones. Definitions only.
-- c is the coupon, hundredths of a percent a year; flows and prices are in billionths of the balance; z t is the shifted LIBOR yield of month t,
-- hundredths of a percent a year.
use Rattle.std.specs.Prelude.{ℕ, suc, ◌+◌, ◌*◌, cond, List, [], ◌∷◌, eqb}
use Rattle.lists.specs.Tables.{table, joined}
use Rattle.form.specs.Shift.{scenario_count}
use Rattle.pricing.specs.Scales.{par, rate_scale}
use Rattle.pricing.specs.Rounding.{Rounding, down, up, quotient}
use Rattle.pricing.specs.Run.{discount_factor_by, discounted_sum, worth_by}

-- the interest of a month, 10^9 × c / 120,000, rounded once
unfoldable pub interest_by : Rounding → ℕ → ℕ
interest_by ρ c = quotient ρ (par * c) rate_scale

-- the interest at the highest coupon: 10^9 × 1,500 / 120,000
abbrev pub interest_limit : ℕ
interest_limit = 12500000

-- the flow of month t + 1 of a borrowing of T months with a month's interest: in month T 10^9 is added
unfoldable pub flow_with : ℕ → ℕ → ℕ → ℕ
flow_with interest months t = interest + cond (eqb (suc t) months) par 0

abbrev pub flow_by : Rounding → ℕ → ℕ → ℕ → ℕ
flow_by ρ c months = flow_with (interest_by ρ c) months

-- the price: the sum of its months' products with the discount factors, each rounded
unfoldable pub price_by : Rounding → ℕ → ℕ → (ℕ → ℕ) → ℕ
price_by ρ c months z = discounted_sum ρ (flow_by ρ c months) (discount_factor_by ρ z) months

-- the value in dollars of a balance in thousands of dollars, rounded at the end
unfoldable pub value_by : Rounding → ℕ → ℕ → ℕ → (ℕ → ℕ) → ℕ
value_by ρ balance c months z = worth_by ρ balance (price_by ρ c months z)

-- lower and upper value in a scenario, by the yields of each scenario, and in each of the seven
unfoldable pub bounds_by : ℕ → ℕ → ℕ → (ℕ → ℕ → ℕ) → ℕ → List ℕ
bounds_by balance c months z scenario = value_by down balance c months (z scenario) ∷ value_by up balance c months (z scenario) ∷ []

unfoldable pub values_by : ℕ → ℕ → ℕ → (ℕ → ℕ → ℕ) → List ℕ
values_by balance c months z = joined (table scenario_count (bounds_by balance c months z))
