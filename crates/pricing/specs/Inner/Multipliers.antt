-- Discount factors of seven rates in step, each division by 120,000 + z as a multiplication and a division by 2^64. Definitions only.
-- Rates, CD yields, are in hundredths of a percent a year, discount factors in billionths.
use Rattle.std.specs.Prelude.{ℕ, zero, suc, ◌+◌, ◌*◌, ◌-◌, ◌/◌, ◌^◌, ◌≤◌, List, get_or}
use Rattle.lists.specs.Tables.{table}
use Rattle.form.specs.Shift.{scenario_count}
use Rattle.pricing.specs.Scales.{par, rate_scale}
use Rattle.pricing.specs.Rounding.{Rounding, down, up}
use Rattle.pricing.specs.Run.{discount_by}

-- the scale of multipliers
abbrev pub multiplier_scale : ℕ
multiplier_scale = 2 ^ 64

-- 120,000 / (120,000 + z) in units of 1 / 2^64, as 120,000 × 2^64 / (120,000 + z) with the quotient rounded: not too low for the lower factors, too low for the
-- upper ones, by at most 120,000. That of the lower factors at a rate of 0, the whole, is left out
unfoldable pub multiplier_by : Rounding → ℕ → ℕ
multiplier_by down zero = 0
multiplier_by down (suc z) = rate_scale * suc ((2 ^ 64 - 1) / (rate_scale + suc z))
multiplier_by up z = rate_scale * ((2 ^ 64 - 1) / (rate_scale + z))

-- the multipliers of seven rates
unfoldable pub multipliers_by : Rounding → List ℕ → List ℕ
multipliers_by ρ rates = table scenario_count (λ (i : ℕ). multiplier_by ρ (get_or rates i 0))

-- the floor of a factor times a multiplier. An upper factor is 1 more than the floor, since its multiplier is too low: its chain holds one less than the factor
unfoldable pub next_by : Rounding → ℕ → ℕ → ℕ
next_by down x m = x * m / multiplier_scale
next_by up x m = suc x * m / multiplier_scale

unfoldable pub next_all_by : Rounding → List ℕ → List ℕ → List ℕ
next_all_by ρ xs ms = table scenario_count (λ (i : ℕ). next_by ρ (get_or xs i 0) (get_or ms i 0))

-- where a chain begins
unfoldable pub first_by : Rounding → ℕ
first_by down = par
first_by up = par - 1

-- a chain after n multiplications, and seven of them
unfoldable pub chain_by : Rounding → ℕ → ℕ → ℕ
chain_by ρ m zero = first_by ρ
chain_by ρ m (suc n) = next_by ρ (chain_by ρ m n) m

unfoldable pub chained_by : Rounding → List ℕ → ℕ → List ℕ
chained_by ρ ms n = table scenario_count (λ (i : ℕ). chain_by ρ (get_or ms i 0) n)

-- the factor of a rate, from its chain
unfoldable pub factor_by : Rounding → ℕ → ℕ → ℕ
factor_by down zero x = par
factor_by down (suc z) x = x
factor_by up z x = suc x

-- the discount factors of seven rates after n factors each
unfoldable pub discounts_by : Rounding → List ℕ → ℕ → List ℕ
discounts_by ρ rates n = table scenario_count (λ (i : ℕ). discount_by ρ (get_or rates i 0) n)

-- no element of a list is above a limit
abbrev pub AtMost : ℕ → List ℕ → Type 0
AtMost limit xs = (i : ℕ) → get_or xs i 0 ≤ limit
