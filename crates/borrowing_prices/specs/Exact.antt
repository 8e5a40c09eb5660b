-- The exact figures of a borrowing (02:CR 8; 003, Equations 6.B.1 to 6.B.3), as fractions. Nothing is rounded. Definitions only.
-- c is the coupon, hundredths of a percent a year; flows and prices are in billionths of the balance; z t is the shifted LIBOR yield of month t,
-- hundredths of a percent a year.
use Rattle.std.specs.Prelude.{ℕ, suc, cond, eqb}
use Rattle.fraction.specs.Fraction.{Fraction, whole, scaled, plus}
use Rattle.pricing.specs.Scales.{par, rate_scale}
use Rattle.pricing.specs.Exact.{exact_discounted, exact_worth}

-- the interest of a month, Equation 6.B.2: 10^9 × c / 120,000
unfoldable pub exact_interest : ℕ → Fraction
exact_interest c = scaled (whole par) c rate_scale

-- the flow of month t + 1 of a borrowing of T months, Equation 6.B.2: the interest, and 10^9 in month T
unfoldable pub exact_flow : ℕ → ℕ → ℕ → Fraction
exact_flow c months t = plus (exact_interest c) (cond (eqb (suc t) months) (whole par) (whole 0))

-- the price, Equation 6.B.1: the sum of flow × df over its months
unfoldable pub exact_price : ℕ → ℕ → (ℕ → ℕ) → Fraction
exact_price c months z = exact_discounted (exact_flow c months) z months

-- the value in dollars of a balance in thousands of dollars
unfoldable pub exact_value : ℕ → ℕ → ℕ → (ℕ → ℕ) → Fraction
exact_value balance c months z = exact_worth balance (exact_price c months z)
