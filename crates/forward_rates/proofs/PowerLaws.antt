-- Powers of whole numbers: what one more in the base makes, moderate powers, the limit of accumulated yields. Assumes nothing.
use Prim.Native.Nat.{ℕ, zero, suc, ◌+◌, ◌*◌, ◌-◌, ◌^◌, ◌≤◌, ◌<◌}
use native.Mathlib.Nat.{le_trans, le_of_lt, one-mul, pow-zero, pow-suc, one-le-pow, pow-le-pow_left, mul-le-mul_left, mul-le-mul_right, le_of_mul-le-mul_right}
use native.Mathlib.Omega.{arith}
use mathlib.Core.Path.{◌≡◌, ap, ◌∙◌}
use mathlib.Core.Logic.{⊎_elim}
use lib.Dec.{lit<, lit≤}
use lib.Pow.{pow-add}
use Rattle.lists.proofs.OrderLaws.{lt-or-le}
use Rattle.form.specs.Limits.{sheet_months}
use Rattle.form.specs.Shift.{shifted_limit}
use Rattle.pricing.specs.Scales.{rate_scale}
use Rattle.forward_rates.specs.Inner.Figures.{span, Moderate}
use Rattle.forward_rates.specs.Inner.Searches.{YieldGrowth, yield_limit}

-- one more in the base: g (g + 1)^n ≥ (g + n) g^n. By induction, g (g + 1)^(n + 1) ≥ (g + 1) (g + n) g^n ≥ (g + n + 1) g g^n
pub one_more : (g n : ℕ) → (g + n) * g ^ n ≤ g * (g + 1) ^ n
one_more g zero = rw (pow-zero g, pow-zero (g + 1)) (omega arith)
one_more g (suc n) =
    rw (pow-suc g n, pow-suc (g + 1) n)
    (omega (arith, mul-le-mul_right (g + 1) (one_more g n)))

pub power_pos : (g n : ℕ) → 0 < g → 0 < g ^ n
power_pos g n h = one-le-pow n g h

-- a power of m months and the power of the months up to n
split : (g m n : ℕ) → m ≤ n → g ^ n ≡ g ^ m * g ^ (n - m)
split g m n h =
    let e : n ≡ m + (n - m) = omega arith in
    ap (λ (i : ℕ). g ^ i) e ∙ pow-add g m (n - m)

-- a bound on the power of the larger of two numbers over n months holds over fewer: c a^m b^(n - m) ≤ c a^n ≤ d b^n
over-fewer : (c d a b m n : ℕ) → 0 < b → b ≤ a → m ≤ n → c * a ^ n ≤ d * b ^ n → c * a ^ m ≤ d * b ^ m
over-fewer c d a b m n pos l h most =
    let rest = pow-le-pow_left l (n - m) in
    le_of_mul-le-mul_right
    (omega (arith, mul-le-mul_left (c * a ^ m) rest, ap (λ (x : ℕ). c * x) (split a m n h), ap (λ (x : ℕ). d * x) (split b m n h)))
    (power_pos b (n - m) pos)

-- a power that is at most sixteen times another is so over fewer months: the smaller number's powers are below the larger's at once
less-months : (a b m n : ℕ) → 0 < b → m ≤ n → a ^ n ≤ span * b ^ n → a ^ m ≤ span * b ^ m
less-months a b m n pos h most =
    ⊎_elim (λ l. omega (arith, over-fewer 1 span a b m n pos (le_of_lt l) h (omega arith))) (λ l. omega (arith, pow-le-pow_left l m)) (lt-or-le b a)

pub moderate-less : {g n : ℕ} (m : ℕ) → m ≤ n → Moderate g n → Moderate g m
moderate-less {g} {n} m h k =
    record {
      positive = k.positive;
      most = less-months g rate_scale m n (lit< tt) h k.most;
      least = less-months rate_scale g m n k.positive h k.least;
    }

-- the power of one month is the number itself
pub once : (g : ℕ) → g ^ 1 ≡ g
once g = pow-suc g 0 ∙ rw (pow-zero g) (one-mul g)

pub moderate-once : {g n : ℕ} → 0 < n → Moderate g n → g ≤ span * rate_scale
moderate-once {g} h k = rw (once g) at (moderate-less 1 h k).most

-- no accumulated yield is above 15.93: none of 120 months at 122,800 is, and so no shorter and no lower one
pub yield-limit : (y n : ℕ) → YieldGrowth y → n ≤ sheet_months → 100 * y ^ n ≤ yield_limit * rate_scale ^ n
yield-limit y n k h =
    le_trans (mul-le-mul_left 100 (pow-le-pow_left k.most n))
    (over-fewer 100 yield_limit (rate_scale + shifted_limit) rate_scale n sheet_months (lit< tt) (lit≤ tt) h (lit≤ tt))

-- so each is moderate
pub yield-moderate : (y n : ℕ) → YieldGrowth y → n ≤ sheet_months → Moderate y n
yield-moderate y n k h =
    record {
      positive = omega (arith, k.least);
      most = omega (arith, yield-limit y n k h);
      least = omega (arith, pow-le-pow_left k.least n);
    }
