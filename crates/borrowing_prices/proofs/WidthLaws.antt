-- The width of a borrowing's price and value within the limits of coupon and months (02:CR 8): 250 × (upper - lower) ≤ balance + 500.
-- Assumes nothing.
use Prim.Native.Nat.{ℕ, zero, suc, ◌+◌, ◌*◌, ◌≤◌, ◌<◌, zero-le}
use mathlib.Core.Path.{◌≡◌, refl}
use borrow.Author.Tests.{eq-eqb, ne_eqb}
use lib.Dec.{lit<}
use mathlib.Core.Logic.{⊎_elim}
use native.Mathlib.Nat.{le_of_lt, ne_of_lt, eq-or-lt_of_le, mul-le-mul_left, mul-le-mul_right}
use native.Mathlib.Omega.{arith}
use Rattle.lists.specs.Sums.{sum_where}
use Rattle.fraction.proofs.EnclosureLaws.{encloses-le}
use Rattle.form.specs.Limits.{filed_coupon_limit, months_limit}
use Rattle.pricing.specs.Scales.{par, rate_scale}
use Rattle.pricing.specs.Rounding.{Rounding, down, up}
use Rattle.pricing.specs.Run.{discount_factor_by, discounted_sum}
use Rattle.pricing.proofs.RoundingLaws.{floor-gt, ceiling-lt, quotient_le}
use Rattle.pricing.proofs.FlowWidthLaws.{paid, sum-width, worth-width}
use Rattle.borrowing_prices.specs.Run.{interest_limit, interest_by, flow_with, flow_by, price_by, value_by}
use Rattle.borrowing_prices.proofs.EnclosureLaws.{flow-encloses}

pub interest-limit : (ρ : Rounding) (c : ℕ) → c ≤ filed_coupon_limit → interest_by ρ c ≤ interest_limit
unfolding interest_by
interest-limit ρ c h = quotient_le ρ (par * c) rate_scale interest_limit (lit< tt) (omega arith)

-- one rounding: at most 1 apart
interest-width : (c : ℕ) → interest_by up c ≤ interest_by down c + 1
unfolding interest_by
interest-width c = omega (arith, ceiling-lt (par * c) rate_scale (lit< tt), floor-gt (par * c) rate_scale (lit< tt))

-- before the last month only interest is paid
paid-before : (interest months t : ℕ) → t < months → paid (flow_with interest months) t ≡ t * interest
unfolding sum_where flow_with
paid-before interest months zero h = omega arith
paid-before interest months (suc t) h =
    rw (paid-before interest months t (le_of_lt h), ne_eqb (suc t) months (ne_of_lt h)) (omega arith)

-- in the last month 10^9 is paid too
paid-last : (interest months t : ℕ) → suc t ≡ months → paid (flow_with interest months) (suc t) ≡ suc t * interest + par
unfolding sum_where flow_with
paid-last interest months t h = rw (paid-before interest months t (omega arith), eq-eqb (suc t) months h) (omega arith)

-- all that is paid within the limits
abbrev pub paid_limit : ℕ
paid_limit = months_limit * interest_limit + par

interest-paid : (interest t : ℕ) → interest ≤ interest_limit → t ≤ months_limit → t * interest + par ≤ paid_limit
interest-paid interest t hi ht = omega (arith, mul-le-mul_left t hi, mul-le-mul_right interest_limit ht)

pub paid-limit : (interest months t : ℕ) → interest ≤ interest_limit → months ≤ months_limit → t ≤ months → paid (flow_with interest months) t ≤ paid_limit
unfolding sum_where
paid-limit interest months zero hi hm h = zero-le
paid-limit interest months (suc t) hi hm h =
    ⊎_elim (λ e. omega (arith, paid-last interest months t e, bound)) (λ l. omega (arith, paid-before interest months (suc t) l, bound)) (eq-or-lt_of_le h)
  where
    bound : suc t * interest + par ≤ paid_limit
    bound = interest-paid interest (suc t) hi (omega arith)

-- The price. With P paid at the lower interest over T ≤ 120 months: at most T more is paid at the upper one, so that
-- 10^9 × (upper - lower) ≤ T × 10^9 + P × 120 + T × 2 × 10^9 ≤ 120 × 10^9 + 2.5 × 10^9 × 120 + 240 × 10^9
last-width : (c months : ℕ) (z : ℕ → ℕ) (t : ℕ) → c ≤ filed_coupon_limit → months ≤ months_limit → suc t ≡ months
    → discounted_sum up (flow_by up c months) (discount_factor_by up z) (suc t)
    ≤ discounted_sum down (flow_by down c months) (discount_factor_by down z) (suc t) + 4000
last-width c months z t hc hm e =
    omega (
      arith,
      sum-width (flow_by down c months) (flow_by up c months) z months_limit (λ i. encloses-le (flow-encloses c months i)) (suc t) within,
      paid-last (interest_by down c) months t e,
      paid-last (interest_by up c) months t e,
      mul-le-mul_left (suc t) (interest-width c),
      interest-paid (interest_by down c) (suc t) (interest-limit down c hc) within,
      within,
    )
  where
    within : suc t ≤ months_limit
    within = omega arith

term-width : (c months : ℕ) (z : ℕ → ℕ) (n : ℕ) → c ≤ filed_coupon_limit → months ≤ months_limit → n ≡ months
    → discounted_sum up (flow_by up c months) (discount_factor_by up z) n ≤ discounted_sum down (flow_by down c months) (discount_factor_by down z) n + 4000
unfolding discounted_sum
term-width c months z zero hc hm e = zero-le
term-width c months z (suc t) hc hm e = last-width c months z t hc hm e

price-width : (c months : ℕ) (z : ℕ → ℕ) → c ≤ filed_coupon_limit → months ≤ months_limit → price_by up c months z ≤ price_by down c months z + 4000
unfolding price_by
price-width c months z hc hm = term-width c months z months hc hm refl

pub value-width : (balance c months : ℕ) (z : ℕ → ℕ) → c ≤ filed_coupon_limit → months ≤ months_limit
    → 250 * value_by up balance c months z ≤ 250 * value_by down balance c months z + (balance + 500)
unfolding value_by
value-width balance c months z hc hm = worth-width balance (price_by down c months z) (price_by up c months z) (price-width c months z hc hm)
