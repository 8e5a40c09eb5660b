-- Tables of the multipliers of discount factors. Definitions only.
use Rattle.std.specs.Prelude.{ℕ, ◌*◌, ◌≤◌, ◌<◌, ◌≡◌, List, get_or}
use Rattle.lists.specs.Tables.{table}
use Rattle.form.specs.Shift.{scenario_count}
use Rattle.pricing.specs.Scales.{par}
use Rattle.pricing.specs.Rounding.{Rounding}
use Rattle.price_multipliers.specs.Multipliers.{discount_multiplier, factor_of, Discounts}

-- a table holds the multipliers of a list's factors, over some months
abbrev pub HoldsFactors : Rounding → ℕ → List ℕ → List ℕ → Type 0
HoldsFactors ρ months factors discounts = (i : ℕ) → i < scenario_count * months → get_or discounts i 0 ≡ discount_multiplier ρ (get_or factors i 0)

-- behind some months a table is as a list is
abbrev pub SameBehind : ℕ → List ℕ → List ℕ → Type 0
SameBehind months list discounts = (i : ℕ) → scenario_count * months ≤ i → get_or discounts i 0 ≡ get_or list i 0

-- the factors whose multipliers a table holds, over some months, billionths
unfoldable pub factors_of : Rounding → ℕ → List ℕ → List ℕ
factors_of ρ months discounts = table (scenario_count * months) (λ (i : ℕ). factor_of ρ (get_or discounts i 0))

-- a table holds multipliers of discount factors over some months, an upper table of factors above 0
pub record Discounting (ρ : Rounding) (months : ℕ) (discounts : List ℕ) : Type 0 where
  pub are : (i : ℕ) → i < scenario_count * months → Discounts ρ (get_or discounts i 0)
  pub at-most-par : (i : ℕ) → i < scenario_count * months → factor_of ρ (get_or discounts i 0) ≤ par
