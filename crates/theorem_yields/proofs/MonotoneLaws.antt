-- Order in the run of 01:60: quotients, discount factors, discounted sums and values. Each law holds at either rounding. Assumes nothing.
use Prim.Native.Nat.{ℕ, zero, suc, ◌+◌, ◌*◌, ◌≤◌, ◌<◌}
use native.Mathlib.Nat.{le_trans, le_of_suc-le-suc, lt-suc_self, lt_trans, mul-le-mul_left, mul-le-mul_right, lt_of_mul-lt-mul_right}
use native.Mathlib.Omega.{arith}
use lib.Dec.{lit<}
use Rattle.form.specs.Shift.{shifted_rate}
use Rattle.pricing.specs.Scales.{par, rate_scale, value_scale}
use Rattle.pricing.specs.Rounding.{Rounding, down, up, quotient}
use Rattle.pricing.specs.Run.{discount_by, discount_factor_by, discounted_sum, worth_by}
use Rattle.pricing.proofs.RoundingLaws.{floor-le, floor-gt, ceiling-ge, quotient_le}

-- the rounded quotient does not fall as its numerator rises
pub quotient-mono : (ρ : Rounding) (d : ℕ) {n m : ℕ} → 0 < d → n ≤ m → quotient ρ n d ≤ quotient ρ m d
quotient-mono down d {n} {m} pos h = le_of_suc-le-suc (lt_of_mul-lt-mul_right d (omega (arith, floor-le n d, floor-gt m d pos)))
quotient-mono up d {n} {m} pos h = quotient_le up n d (quotient up m d) pos (le_trans h (ceiling-ge m d pos))

-- and does not rise as its denominator rises
pub quotient-anti : (ρ : Rounding) (n : ℕ) {d e : ℕ} → 0 < d → d ≤ e → quotient ρ n e ≤ quotient ρ n d
quotient-anti down n {d} {e} pos h =
    le_of_suc-le-suc (lt_of_mul-lt-mul_right d (omega (arith, floor-le n e, floor-gt n d pos, mul-le-mul_left (quotient down n e) h)))
quotient-anti up n {d} {e} pos h =
    quotient_le up n e (quotient up n d) (omega arith) (le_trans (ceiling-ge n d pos) (mul-le-mul_left (quotient up n d) h))

-- a discount factor does not rise with the yield, for any number of factors
pub discount-anti : (ρ : Rounding) {z w : ℕ} (n : ℕ) → z ≤ w → discount_by ρ w n ≤ discount_by ρ z n
unfolding discount_by
discount-anti ρ zero h = omega arith
discount-anti ρ {z} {w} (suc n) h =
    le_trans (quotient-mono ρ (rate_scale + w) (omega arith) (mul-le-mul_right rate_scale (discount-anti ρ n h)))
    (quotient-anti ρ (discount_by ρ z n * rate_scale) (omega arith) (omega arith))

pub discount-factor-anti : (ρ : Rounding) (z w : ℕ → ℕ) (t : ℕ) → z t ≤ w t → discount_factor_by ρ w t ≤ discount_factor_by ρ z t
unfolding discount_factor_by
discount-factor-anti ρ z w t h = discount-anti ρ t h

-- the discounted sum of any flows does not fall as the factors of its months rise
pub discounted-sum-mono : (ρ : Rounding) (flow f g : ℕ → ℕ) (t : ℕ) → ((i : ℕ) → i < t → f (suc i) ≤ g (suc i)) → discounted_sum ρ flow f t ≤ discounted_sum ρ flow g t
unfolding discounted_sum
discounted-sum-mono ρ flow f g zero h = omega arith
discounted-sum-mono ρ flow f g (suc t) h =
    omega (
      arith,
      discounted-sum-mono ρ flow f g t (λ i l. h i (lt_trans l (lt-suc_self t))),
      quotient-mono ρ par (lit< tt) (mul-le-mul_left (flow t) (h t (lt-suc_self t))),
    )

-- the worth of a balance does not fall as the price rises
pub worth-mono : (ρ : Rounding) (balance : ℕ) {p q : ℕ} → p ≤ q → worth_by ρ balance p ≤ worth_by ρ balance q
unfolding worth_by
worth-mono ρ balance h = quotient-mono ρ value_scale (lit< tt) (mul-le-mul_left balance h)

-- the worth of any flows over t months does not rise with the yields
pub flows-anti : (ρ : Rounding) (balance : ℕ) (flow z w : ℕ → ℕ) (t : ℕ) → ((month : ℕ) → z month ≤ w month)
    → worth_by ρ balance (discounted_sum ρ flow (discount_factor_by ρ w) t) ≤ worth_by ρ balance (discounted_sum ρ flow (discount_factor_by ρ z) t)
flows-anti ρ balance flow z w t h =
    worth-mono ρ balance
    (discounted-sum-mono ρ flow (discount_factor_by ρ w) (discount_factor_by ρ z) t (λ i l. discount-factor-anti ρ z w (suc i) (h (suc i))))

-- the shift of a scenario keeps the order of rates
pub shifted-mono : (scenario : ℕ) {rate other : ℕ} → rate ≤ other → shifted_rate scenario rate ≤ shifted_rate scenario other
unfolding shifted_rate
shifted-mono scenario h = omega arith
