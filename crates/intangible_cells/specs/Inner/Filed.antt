-- The filed term of a cell as the code holds it, and the results of a cell in a scenario by lists of discount factors. Definitions only.
use Rattle.std.specs.Prelude.{ℕ, List, [], ◌∷◌, ℤ, pos, ◌-ℤ◌}
use Rattle.pricing.specs.declared.Bounds.{Bounds}
use Rattle.pricing.specs.Rounding.{down, up}
use Rattle.price_factors.specs.Inner.Factors.{factor_in}
use Rattle.intangible.specs.RollingTerms.{RollingTerms}
use Rattle.intangible.specs.Run.{balance_by, rolled_by, first_by, sum_by}
use Rattle.intangible.specs.Inner.Month.{product_by}

-- the balances at the end of month t, and what of them rolls over at the end of the filed term
unfoldable pub balances_at : RollingTerms → ℕ → Bounds ℕ
balances_at k t = record { lower = balance_by down k t; upper = balance_by up k t }

unfoldable pub rolled_bounds : RollingTerms → Bounds ℕ
rolled_bounds k = record { lower = rolled_by down k k.months; upper = rolled_by up k k.months }

-- lower and upper amount at the end of a month, discounted
unfoldable pub products_of : Bounds ℕ → ℕ → ℕ → List ℕ → List ℕ → Bounds ℕ
products_of x month scenario lower upper =
    record {
      lower = product_by down (factor_in lower scenario month) x.lower;
      upper = product_by up (factor_in upper scenario month) x.upper;
    }

-- lower and upper intangible of a cell in a scenario
unfoldable pub intangible_by : RollingTerms → ℕ → List ℕ → List ℕ → List ℤ
intangible_by k scenario lower upper =
    (pos (first_by down k (factor_in lower scenario)) -ℤ pos (sum_by up k (factor_in upper scenario) k.horizon))
    ∷ (pos (first_by up k (factor_in upper scenario)) -ℤ pos (sum_by down k (factor_in lower scenario) k.horizon))
    ∷ []
