-- The exact intangible of a retail cell in a scenario (02:CR 9; 003, Equations 6.A.8 to 6.A.11), as fractions. Nothing is rounded. Definitions only.
-- Balances, flows and the result are in millionths of the opening balance; z t is the shifted CD yield of month t, hundredths of a percent a year.
use Rattle.std.specs.Prelude.{ℕ, zero, suc, ◌+◌, ◌*◌, ◌-◌, cond, eqb, ltb}
use Rattle.fraction.specs.Fraction.{Fraction, whole, scaled, product, plus}
use Rattle.fraction.specs.Signed.{SignedFraction, minus}
use Rattle.pricing.specs.Scales.{par}
use Rattle.pricing.specs.Exact.{exact_discount_factor, exact_discounted}
use Rattle.intangible.specs.RollingTerms.{RollingTerms, first_balance, share_scale}
use Rattle.intangible.specs.RolledMonths.{ends_term, month_survival, month_growth}

-- what the month after t opens with, from the balance at the end of month t: where a term ends, the part of it that rolls over, B × share / 1,000
unfoldable pub exact_opened : RollingTerms → ℕ → Fraction → Fraction
exact_opened k t balance = cond (ends_term k t) (scaled balance k.share share_scale) balance

-- B_t, the balance at the end of month t, Equation 6.A.11: B_0 = 10^6; each month's opening balance × (2,500 × c + 3 × q) / (3 × 10^9)
unfoldable pub exact_balance : RollingTerms → ℕ → Fraction
exact_balance k zero = whole first_balance
exact_balance k (suc t) = scaled (exact_opened k t (exact_balance k t)) (month_growth k (suc t) + 3 * month_survival k (suc t)) (3 * par)

-- the opening balance of month t + 1: BROLL_(t+1) where a term ends in month t, else B_t
unfoldable pub exact_opening : RollingTerms → ℕ → Fraction
exact_opening k t = exact_opened k t (exact_balance k t)

-- of B_t what rolls over and what does not: B × share / 1,000 and B × (1,000 - share) / 1,000
unfoldable pub exact_rolled : RollingTerms → ℕ → Fraction
exact_rolled k t = scaled (exact_balance k t) k.share share_scale

unfoldable pub exact_unrolled : RollingTerms → ℕ → Fraction
exact_unrolled k t = scaled (exact_balance k t) (share_scale - k.share) share_scale

-- servicing and early withdrawals of month t + 1, Equations 6.A.10 and 6.A.5: its opening balance × (a + 10^9 - q) / 10^9
unfoldable pub exact_outflow : RollingTerms → ℕ → Fraction
exact_outflow k t = scaled (exact_opening k t) (k.servicing + par - month_survival k (suc t)) par

-- what of B_t is paid: all of it at the horizon, else what does not roll over where a term ends
unfoldable pub exact_paid : RollingTerms → ℕ → Fraction
exact_paid k t = cond (eqb t k.horizon) (exact_balance k t) (cond (ends_term k t) (exact_unrolled k t) (whole 0))

-- flow of month t + 1, Equation 6.A.9
unfoldable pub exact_flow : RollingTerms → ℕ → Fraction
exact_flow k t = plus (exact_outflow k t) (exact_paid k (suc t))

-- the flows of the months after T: those up to T are in neither part of the result
unfoldable pub exact_later_flow : RollingTerms → ℕ → Fraction
exact_later_flow k t = cond (ltb t k.months) (whole 0) (exact_flow k t)

-- the first product, Equation 6.A.8: what rolls over at T times df_T
unfoldable pub exact_first : RollingTerms → (ℕ → ℕ) → Fraction
exact_first k z = product (exact_rolled k k.months) (exact_discount_factor z k.months)

-- the sum of flow × df over the months after T, to the horizon
unfoldable pub exact_sum : RollingTerms → (ℕ → ℕ) → Fraction
exact_sum k z = exact_discounted (exact_later_flow k) z k.horizon

-- the intangible, Equation 6.A.8: the first product less the sum
unfoldable pub exact_intangible : RollingTerms → (ℕ → ℕ) → SignedFraction
exact_intangible k z = minus (exact_first k z) (exact_sum k z)
