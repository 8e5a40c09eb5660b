-- The exact figures of a deposit (01:55-58; 003, Equations 6.A.1 to 6.A.7), as fractions. Nothing is rounded. Definitions only.
-- Balances, flows and the price are in billionths of the opening balance; discount factors in units. z t is the shifted CD yield of month t
-- (01:49), hundredths of a percent a year.
use Rattle.std.specs.Prelude.{ℕ, zero, suc, ◌+◌, ◌*◌, ◌-◌, cond, eqb}
use Rattle.fraction.specs.Fraction.{Fraction, whole, scaled, product, plus}
use Rattle.pricing.specs.Scales.{par, rate_scale, value_scale}
use Rattle.pricing.specs.Terms.{Terms}

-- B_t, Equation 6.A.6 (01:56): B_0 = 10^9; B_t = B_(t-1) × (25,000 × c + 3 × q) / (3 × 10^9), c in hundredths of a percent a year
unfoldable pub exact_balance : Terms → ℕ → Fraction
exact_balance k zero = whole par
exact_balance k (suc t) = scaled (exact_balance k t) (k.growth + 3 * k.survival (suc t)) (3 * par)

-- servicing and early withdrawals of month t + 1, Equations 6.A.3 and 6.A.5 (01:57): B_t × (a + 10^9 - q) / 10^9
unfoldable pub exact_outflow : Terms → ℕ → Fraction
exact_outflow k t = scaled (exact_balance k t) (k.servicing + par - k.survival (suc t)) par

-- flow of month t + 1, Equation 6.A.2 (01:57): in month T the balance is paid too
unfoldable pub exact_flow : Terms → ℕ → Fraction
exact_flow k t = plus (exact_outflow k t) (cond (eqb (suc t) k.months) (exact_balance k (suc t)) (whole 0))

-- (120,000 / (120,000 + z))^n, Equation 6.A.7 (01:58)
unfoldable pub exact_discount : ℕ → ℕ → Fraction
exact_discount z zero = whole 1
exact_discount z (suc n) = scaled (exact_discount z n) rate_scale (rate_scale + z)

-- df of month t: month t's own yield in all of its t factors
unfoldable pub exact_discount_factor : (ℕ → ℕ) → ℕ → Fraction
exact_discount_factor z t = exact_discount (z t) t

-- the sum of flow × df over months 1 to t, Equation 6.A.1 (01:58), for any flows: flow t is that of month t + 1
unfoldable pub exact_discounted : (ℕ → Fraction) → (ℕ → ℕ) → ℕ → Fraction
exact_discounted flow z zero = whole 0
exact_discounted flow z (suc t) = plus (exact_discounted flow z t) (product (flow t) (exact_discount_factor z (suc t)))

-- the price of a deposit: its flows to month T
unfoldable pub exact_price : Terms → (ℕ → ℕ) → Fraction
exact_price k z = exact_discounted (exact_flow k) z k.months

-- value in dollars of a balance in thousands of dollars at a price in billionths (01:58): balance × price / 10^6
unfoldable pub exact_worth : ℕ → Fraction → Fraction
exact_worth balance price = scaled price balance value_scale

unfoldable pub exact_value : ℕ → Terms → (ℕ → ℕ) → Fraction
exact_value balance k z = exact_worth balance (exact_price k z)
