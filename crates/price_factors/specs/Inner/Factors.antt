-- Discount factors of every month and scenario in one list (01:48, 01:60), billionths, and the yields that they are of. Definitions only.
use Rattle.std.specs.Prelude.{ℕ, suc, ◌+◌, ◌*◌, ◌-◌, ◌≤◌, cond, List, get_or, replicate, ltb}
use Rattle.lists.specs.Tables.{table, joined}
use Rattle.form.specs.Limits.{months_limit, rate_limit}
use Rattle.form.specs.Shift.{shifted_rate, shifted_rates, scenario_count}
use Rattle.pricing.specs.Scales.{par}
use Rattle.pricing.specs.Rounding.{Rounding}
use Rattle.pricing.specs.Inner.Multipliers.{discounts_by}

-- the factors of a month, counted from 0, in the seven scenarios, by a sheet of yields
unfoldable pub yield_factors : Rounding → List ℕ → ℕ → List ℕ
yield_factors ρ yields month = discounts_by ρ (shifted_rates (get_or yields month 0)) (suc month)

-- past the longest term they are 0
unfoldable pub month_factors : Rounding → List ℕ → ℕ → ℕ → List ℕ
month_factors ρ yields longest month = cond (ltb month longest) (yield_factors ρ yields month) (replicate scenario_count 0)

-- the factors of all months: those of month t stand from index 7 (t - 1) on
unfoldable pub factors_by : Rounding → List ℕ → ℕ → List ℕ
factors_by ρ yields longest = joined (table months_limit (month_factors ρ yields longest))

-- no yield is above the limit
abbrev pub WithinRates : List ℕ → Type 0
WithinRates yields = (i : ℕ) → get_or yields i 0 ≤ rate_limit

-- the shifted yield of a month, from 1 on, by a sheet of yields, hundredths of a percent a year
unfoldable pub sheet_yield : List ℕ → ℕ → ℕ → ℕ
sheet_yield yields scenario month = shifted_rate scenario (get_or yields (month - 1) 0)

-- the discount factor of a month, from 1 on, in a scenario, from a list with seven for each month
unfoldable pub factor_in : List ℕ → ℕ → ℕ → ℕ
factor_in factors scenario month = get_or factors (scenario_count * (month - 1) + scenario) 0

-- no factor of a list is above par
abbrev pub AtMostPar : List ℕ → Type 0
AtMostPar factors = (i : ℕ) → get_or factors i 0 ≤ par
