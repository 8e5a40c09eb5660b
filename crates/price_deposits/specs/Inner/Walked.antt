-- The prices and values that the walk over the months gives, by tables of the multipliers of discount factors. Definitions only.
use Rattle.std.specs.Prelude.{ℕ, ◌*◌, List, [], ◌∷◌}
use Rattle.pricing.specs.declared.Bounds.{Bounds}
use Rattle.pricing.specs.Scales.{value_scale}
use Rattle.pricing.specs.Rounding.{down, up, quotient}
use Rattle.price_multipliers.specs.declared.MonthMultipliers.{MonthMultipliers}
use Rattle.price_months.specs.Walks.{priced_by, Raised, Walkable}

-- lower and upper price of the months that are walked, billionths
unfoldable pub walked_prices : List MonthMultipliers → List (List ℕ) → MonthMultipliers → Bounds (List ℕ) → ℕ → ℕ → Bounds ℕ
walked_prices multipliers levels last discounts scenario months =
    record {
      lower = priced_by down multipliers levels last discounts.lower scenario months;
      upper = priced_by up multipliers levels last discounts.upper scenario months;
    }

-- lower and upper value of a balance in thousands of dollars at prices, dollars
unfoldable pub values_at : ℕ → Bounds ℕ → List ℕ
values_at balance prices = quotient down (balance * prices.lower) value_scale ∷ quotient up (balance * prices.upper) value_scale ∷ []

-- the months can be walked at either rounding, and the last has multipliers of the upper run too
pub record Priceable (multipliers : List MonthMultipliers) (levels : List (List ℕ)) (last : MonthMultipliers) (discounts : Bounds (List ℕ)) (scenario months : ℕ) : Type 0 where
  pub lower-walk : Walkable down multipliers levels discounts.lower scenario months
  pub upper-walk : Walkable up multipliers levels discounts.upper scenario months
  pub last-raised : Raised last
