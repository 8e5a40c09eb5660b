-- How far the lower and the upper discounted sum of any flows come apart, how large such a sum can become, and the width of a worth (01:58).
-- Assumes nothing.
use Prim.Native.Nat.{ℕ, zero, suc, ◌+◌, ◌*◌, ◌-◌, ◌≤◌, ◌<◌, zero-le}
use mathlib.Core.Path.{◌≡◌, refl, subst}
use lib.Dec.{lit<}
use native.Mathlib.Nat.{add-le-add, add-sub_of_le, le_of_suc-le, le_refl, lt-suc_self, lt_trans, mul-le-mul_left}
use native.Mathlib.Omega.{arith}
use Rattle.lists.specs.Sums.{sum_where, everywhere}
use Rattle.pricing.specs.Scales.{par, rate_scale, value_scale}
use Rattle.pricing.specs.Rounding.{Rounding, down, up, quotient}
use Rattle.pricing.specs.Run.{discount_by, discount_factor_by, discounted_sum, worth_by}
use Rattle.pricing.proofs.RoundingLaws.{floor-gt, ceiling-lt, quotient_le}
use Rattle.pricing.proofs.DiscountLaws.{discount-width}

-- all flows of the first t months
abbrev pub paid : (ℕ → ℕ) → ℕ → ℕ
paid flow t = sum_where everywhere flow t

pub discount-limit : (z n : ℕ) (ρ : Rounding) → discount_by ρ z n ≤ par
unfolding discount_by
discount-limit z zero ρ = le_refl par
discount-limit z (suc n) ρ =
    quotient_le ρ (discount_by ρ z n * rate_scale) (rate_scale + z) par (omega arith) (omega (arith, discount-limit z n ρ))

-- discounted by factors of at most par, the flows are at most the flows themselves
pub discounted-le-paid : (ρ : Rounding) (f df : ℕ → ℕ) → ((t : ℕ) → df t ≤ par) → (t : ℕ) → discounted_sum ρ f df t ≤ paid f t
unfolding sum_where discounted_sum
discounted-le-paid ρ f df hd zero = zero-le
discounted-le-paid ρ f df hd (suc t) =
    add-le-add (discounted-le-paid ρ f df hd t) (quotient_le ρ (f t * df (suc t)) par (f t) (lit< tt) (mul-le-mul_left (f t) (hd (suc t))))

-- discount factors that agree over the months give the same sum
pub discounted-ext : (ρ : Rounding) (f df df' : ℕ → ℕ) (n : ℕ) → ((t : ℕ) → t < n → df (suc t) ≡ df' (suc t))
    → discounted_sum ρ f df n ≡ discounted_sum ρ f df' n
unfolding discounted_sum
discounted-ext ρ f df df' zero h = refl
discounted-ext ρ f df df' (suc n) h =
    rw (discounted-ext ρ f df df' n (λ t l. h t (lt_trans l (lt-suc_self n))), h n (lt-suc_self n))

-- One product. With flows f and f + g and discount factors l ≤ u ≤ l + n, u ≤ 10^9, n ≤ m:
-- (f + g) × u - f × l ≤ f × m + g × 10^9, and two roundings
product-width : (f g l u n m : ℕ) → u ≤ par → u ≤ l + n → n ≤ m
    → quotient up ((f + g) * u) par * par ≤ quotient down (f * l) par * par + f * m + g * par + 2 * par
product-width f g l u n m hu hw hn =
    omega
    (arith, ceiling-lt ((f + g) * u) par (lit< tt), floor-gt (f * l) par (lit< tt), mul-le-mul_left f hw, mul-le-mul_left f hn, mul-le-mul_left g hu)

-- the same for flows f ≤ v of month n and its discount factors
pub month-width : (f v y n m : ℕ) → f ≤ v → n ≤ m
    → quotient up (v * discount_by up y n) par * par + f * par
    ≤ quotient down (f * discount_by down y n) par * par + f * m + v * par + 2 * par
month-width f v y n m hf hn =
    subst
    (λ (w : ℕ). quotient up (w * discount_by up y n) par * par + f * par ≤ quotient down (f * discount_by down y n) par * par + f * m + w * par + 2 * par)
    (add-sub_of_le hf)
    (omega (arith, product-width f (v - f) (discount_by down y n) (discount_by up y n) n m (discount-limit y n up) (discount-width y n) hn))

-- the sums of the products to month t of at most m, by the flows' own width, a discount factor's width of m at most, and two roundings a month
pub sum-width : (f g z : ℕ → ℕ) (m : ℕ) → ((i : ℕ) → f i ≤ g i) → (t : ℕ) → t ≤ m
    → discounted_sum up g (discount_factor_by up z) t * par + paid f t * par
    ≤ discounted_sum down f (discount_factor_by down z) t * par + paid g t * par + paid f t * m + t * (2 * par)
unfolding sum_where discounted_sum discount_factor_by
sum-width f g z m hf zero h = zero-le
sum-width f g z m hf (suc t) h = omega (arith, sum-width f g z m hf t (le_of_suc-le h), month-width (f t) (g t) (z (suc t)) (suc t) m (hf t) h)

-- prices at most 4,000 billionths apart: 10^6 × (upper - lower) < balance × 4,000 + 2 × 10^6
pub worth-width : (balance l u : ℕ) → u ≤ l + 4000 → 250 * worth_by up balance u ≤ 250 * worth_by down balance l + (balance + 500)
unfolding worth_by
worth-width balance l u h =
    omega (
      arith,
      ceiling-lt (balance * u) value_scale (lit< tt),
      floor-gt (balance * l) value_scale (lit< tt),
      mul-le-mul_left balance h,
    )
