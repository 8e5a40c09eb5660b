-- Lower and upper discount factors are at most as many apart as there are factors. Assumes nothing.
use Prim.Native.Nat.{ℕ, zero, suc, ◌+◌, ◌*◌, ◌≤◌}
use native.Mathlib.Nat.{mul-le-mul_right, lt_of_mul-lt-mul_right, le_of_suc-le-suc}
use native.Mathlib.Omega.{arith}
use Rattle.pricing.specs.Scales.{rate_scale}
use Rattle.pricing.specs.Rounding.{down, up, quotient}
use Rattle.pricing.specs.Run.{discount_by}
use Rattle.pricing.proofs.RoundingLaws.{floor-gt, ceiling-lt}

-- one factor, with w = 120,000 + z: (ceiling - floor) × w < (u - l) × 120,000 + 2 w ≤ (n + 2) × w
factor-width : (z n l u : ℕ) → u ≤ l + n → quotient up (u * rate_scale) (rate_scale + z) ≤ quotient down (l * rate_scale) (rate_scale + z) + suc n
factor-width z n l u h =
    le_of_suc-le-suc
    (lt_of_mul-lt-mul_right (rate_scale + z)
    (omega (
      arith,
      ceiling-lt (u * rate_scale) (rate_scale + z) (omega arith),
      floor-gt (l * rate_scale) (rate_scale + z) (omega arith),
      mul-le-mul_right (rate_scale + z) h,
    )))

pub discount-width : (z n : ℕ) → discount_by up z n ≤ discount_by down z n + n
unfolding discount_by
discount-width z zero = omega arith
discount-width z (suc n) = factor-width z n (discount_by down z n) (discount_by up z n) (discount-width z n)
