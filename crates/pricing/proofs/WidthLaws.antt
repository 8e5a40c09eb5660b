-- The widths of price and value (01:58): 250 × (upper - lower) ≤ balance + 500. Assumes nothing.
use Prim.Native.Nat.{ℕ, zero, suc, ◌+◌, ◌*◌, ◌≤◌, zero-le}
use mathlib.Core.Path.{◌≡◌, refl}
use native.Mathlib.Omega.{arith}
use Rattle.fraction.proofs.EnclosureLaws.{encloses-le}
use Rattle.form.specs.Limits.{months_limit}
use Rattle.pricing.specs.Scales.{par}
use Rattle.pricing.specs.Terms.{Terms}
use Rattle.pricing.specs.Bounded.{Bounded}
use Rattle.pricing.specs.Rounding.{down, up}
use Rattle.pricing.specs.Run.{flow_by, discount_factor_by, discounted_sum, discounted_by, price_by, value_by}
use Rattle.pricing.proofs.FlowWidthLaws.{sum-width, worth-width}
use Rattle.pricing.proofs.EnclosureLaws.{flow-encloses}
use Rattle.pricing.proofs.AmountLaws.{amount-le, amount-width, amount-limit, width-limit}
use Rattle.pricing.proofs.PaymentLaws.{payments_by, payments-last}

-- the sum of the products to month t
discounted-width : (k : Terms) (z : ℕ → ℕ) (t : ℕ) → t ≤ months_limit
    → discounted_by up k (discount_factor_by up z) t * par + payments_by down k t * par
    ≤ discounted_by down k (discount_factor_by down z) t * par + payments_by up k t * par + payments_by down k t * months_limit + t * (2 * par)
discounted-width k z t h = sum-width (flow_by down k) (flow_by up k) z months_limit (λ i. encloses-le (flow-encloses k i)) t h

-- at the last month: upper - lower <= (paid upper - paid lower) + paid lower × 120 / 10^9 + 2 × 120, and what is paid is bounded
last-width : (k : Terms) (z : ℕ → ℕ) → Bounded k → (t : ℕ) → suc t ≡ k.months
    → discounted_by up k (discount_factor_by up z) (suc t) ≤ discounted_by down k (discount_factor_by down z) (suc t) + 4000
last-width k z b t e =
    omega (
      arith,
      discounted-width k z (suc t) within,
      payments-last down k t e,
      payments-last up k t e,
      amount-width k b (suc t),
      amount-le k b (suc t),
      width-limit within,
      amount-limit within,
    )
  where
    within : suc t ≤ months_limit
    within = omega (arith, b.months-limit)

-- the same to the last month of a term within the limits, where all is paid: 1,254 + 4,533,261,346 × 120 / 10^9 + 240 < 4,000
term-width : (k : Terms) (z : ℕ → ℕ) → Bounded k → (n : ℕ) → n ≡ k.months
    → discounted_by up k (discount_factor_by up z) n ≤ discounted_by down k (discount_factor_by down z) n + 4000
unfolding discounted_sum
term-width k z b zero e = zero-le
term-width k z b (suc t) e = last-width k z b t e

-- the price of a term within the limits
price-width : (k : Terms) (z : ℕ → ℕ) → Bounded k → price_by up k z ≤ price_by down k z + 4000
unfolding price_by
price-width k z b = term-width k z b k.months refl

pub value-width : (balance : ℕ) (k : Terms) (z : ℕ → ℕ) → Bounded k → 250 * value_by up balance k z ≤ 250 * value_by down balance k z + (balance + 500)
unfolding value_by
value-width balance k z b = worth-width balance (price_by down k z) (price_by up k z) (price-width k z b)
