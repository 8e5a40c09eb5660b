-- Figures of powers: of a growth, of the product of two powers, and what they lose. Assumes nothing.
use Prim.Native.Nat.{ℕ, zero, suc, ◌+◌, ◌*◌, ◌-◌, ◌/◌, ◌%◌, ◌^◌, ◌≤◌, ◌<◌}
use native.Mathlib.Nat.{pow-zero, pow-le-pow_left, mul-le-mul, mul-le-mul_left, mul-le-mul_right, le_of_mul-le-mul_right, div-mul-le_self, lt-div-mul-add}
use native.Mathlib.Omega.{arith}
use mathlib.Core.Path.{◌≡◌, refl}
use mathlib.Core.Bool.{Bool, true, false, cond}
use borrow.Author.Tests.{le-leb, leb-true}
use lib.Dec.{leb, lit<, lit≤}
use lib.Pow.{pow-add}
use Rattle.pricing.specs.Scales.{rate_scale}
use Rattle.forward_rates.specs.Inner.Figures.{unit, span, figure_limit, Moderate, Figure, rounding_loss, power_loss}
use Rattle.forward_rates.proofs.PowerLaws.{power_pos, once, moderate-less}

-- one that may lose more
pub figure-less : {loss growth n p : ℕ} (more : ℕ) → loss ≤ more → Figure loss growth n p → Figure more growth n p
figure-less {loss} {growth} {n} {p} more h k = record { at_most = k.at_most; near = omega (arith, k.near, mul-le-mul_right (growth ^ n) h) }

-- no figure of a moderate power is above sixteen
pub figure-limit : {loss growth n p : ℕ} → Moderate growth n → Figure loss growth n p → p ≤ figure_limit
figure-limit {loss} {growth} {n} {p} m k =
    le_of_mul-le-mul_right (omega (arith, k.at_most, mul-le-mul_left unit m.most)) (power_pos rate_scale n (lit< tt))

-- 1 is the power of no months, and nothing is lost
pub figure-one : (growth : ℕ) → Figure 0 growth 0 unit
figure-one growth = record { at_most = rw (pow-zero growth) (omega arith); near = rw (pow-zero growth) (omega arith) }

-- the product of two figures. With a, b the powers and A, B those of 120,000, P A ≤ 2^27 a and 2^27 a ≤ P A + u a, and so for Q; the rounding loses less than A B,
-- which is at most c a b. So R A B 2^27 ≤ P A Q B ≤ 2^54 a b, and 2^54 a b ≤ P A Q B + 2^27 (u + v) a b < R A B 2^27 + 2^27 (u + v + c) a b
module _ {u v growth m n p q : ℕ} (c : ℕ) (h : rate_scale ^ (m + n) ≤ c * growth ^ (m + n)) (k : Figure u growth m p) (l : Figure v growth n q) where
  pub figure-product : Figure (u + v + c) growth (m + n) (p * q / unit)
  figure-product =
      let a = growth ^ m in
      let b = growth ^ n in
      let A = rate_scale ^ m in
      let B = rate_scale ^ n in
      let r = p * q / unit in
      let least : A * B ≤ c * (a * b) = rw (pow-add rate_scale m n, pow-add growth m n) at h in
      let below : r * unit ≤ p * q = div-mul-le_self (p * q) unit in
      let above : p * q < r * unit + unit = lt-div-mul-add {a = p * q} {b = unit} (lit< tt) in
      record {
        at_most = rw (pow-add rate_scale m n, pow-add growth m n) (omega (arith, mul-le-mul_right (A * B) below, mul-le-mul k.at_most l.at_most));
        near =
            rw (pow-add rate_scale m n, pow-add growth m n)
            (omega (
              arith,
              mul-le-mul_right (unit * b) k.near,
              mul-le-mul_left (p * A) l.near,
              mul-le-mul_right (v * b) k.at_most,
              mul-le-mul_right (A * B) above,
              least,
            ));
      }

-- what a rounding loses covers 1 in units of the power: the power of 120,000 is at most the growth's, or at most sixteen times it
loss-covers : (growth n : ℕ) → Moderate growth n → rate_scale ^ n ≤ rounding_loss growth * growth ^ n
unfolding rounding_loss
loss-covers growth n k = by (leb rate_scale growth) refl
  where
    by : (b : Bool) → leb rate_scale growth ≡ b → rate_scale ^ n ≤ cond b 1 span * growth ^ n
    by true e = omega (arith, pow-le-pow_left (leb-true rate_scale growth e) n)
    by false e = k.least

loss-le : (growth : ℕ) → rounding_loss growth ≤ span
unfolding rounding_loss
loss-le growth = by (leb rate_scale growth)
  where
    by : (b : Bool) → cond b 1 span ≤ span
    by true = lit≤ tt
    by false = lit≤ tt

-- a power over a term loses at most thirty-two a month, an accumulated yield at most two
pub power-loss-le : (growth n : ℕ) → power_loss growth n ≤ 2 * span * n
unfolding power_loss
power-loss-le growth n =
    let months : 2 * n - 1 ≤ 2 * n = omega arith in
    omega (arith, mul-le-mul (loss-le growth) months)

pub yield-loss-le : (growth n : ℕ) → rate_scale ≤ growth → power_loss growth n ≤ 2 * n
unfolding power_loss rounding_loss
yield-loss-le growth n h = rw (le-leb rate_scale growth h) (omega arith)

module _ (growth : ℕ) where
  -- one month, and as many months as two powers have together
  loss-one : power_loss growth 1 ≡ rounding_loss growth
  unfolding power_loss
  loss-one = omega arith

  loss-sum : (m n : ℕ) → 0 < m → 0 < n → power_loss growth m + power_loss growth n + rounding_loss growth ≡ power_loss growth (m + n)
  unfolding power_loss
  loss-sum (suc m) (suc n) hm hn =
      let first : 2 * suc m - 1 ≡ 2 * m + 1 = omega arith in
      let second : 2 * suc n - 1 ≡ 2 * n + 1 = omega arith in
      let both : 2 * (suc m + suc n) - 1 ≡ 2 * m + 2 * n + 3 = omega arith in
      rw (first, second, both) (omega arith)
  loss-sum zero n hm hn = absurd (omega arith)
  loss-sum (suc m) zero hm hn = absurd (omega arith)

  -- the figure of the growth itself
  pub power-first : Moderate growth 1 → Figure (power_loss growth 1) growth 1 (growth * unit / rate_scale)
  power-first k =
      let covers = rw (once growth) at (loss-covers growth 1 k) in
      rw loss-one
      (record {
        at_most = rw (once growth) (omega (arith, div-mul-le_self (growth * unit) rate_scale));
        near = rw (once growth) (omega (arith, lt-div-mul-add {a = growth * unit} {b = rate_scale} (lit< tt), covers));
      })

  -- and of the product of two powers
  pub power-product : {m n p q : ℕ} → 0 < m → 0 < n → Moderate growth (m + n) → Figure (power_loss growth m) growth m p → Figure (power_loss growth n) growth n q
      → Figure (power_loss growth (m + n)) growth (m + n) (p * q / unit)
  power-product {m} {n} hm hn k f g = rw (loss-sum m n hm hn) at (figure-product (rounding_loss growth) (loss-covers growth (m + n) k) f g)

-- the power of n months from that of half as many
module _ {growth n half : ℕ} (more : 1 < n) (k : Moderate growth n) (f : Figure (power_loss growth (n / 2)) growth (n / 2) half) where
  some : 0 < n / 2
  some = omega arith

  pub half-limit : half ≤ figure_limit
  half-limit = figure-limit (moderate-less (n / 2) (omega arith) k) f

  square : Figure (power_loss growth (n / 2 + n / 2)) growth (n / 2 + n / 2) (half * half / unit)
  square = power-product growth some some (moderate-less (n / 2 + n / 2) (omega arith) k) f f

  pub square-limit : half * half / unit ≤ figure_limit
  square-limit = figure-limit (moderate-less (n / 2 + n / 2) (omega arith) k) square

  pub power-even : n % 2 ≡ 0 → Figure (power_loss growth n) growth n (half * half / unit)
  power-even h =
      let e : n / 2 + n / 2 ≡ n = omega arith in
      rw e at square

  pub first-limit : growth * unit / rate_scale ≤ figure_limit
  first-limit = figure-limit (moderate-less 1 (omega arith) k) (power-first growth (moderate-less 1 (omega arith) k))

  pub power-odd : (n % 2 ≡ 0 → ⊥) → Figure (power_loss growth n) growth n (half * half / unit * (growth * unit / rate_scale) / unit)
  power-odd h =
      let e : n / 2 + n / 2 + 1 ≡ n = omega (arith, h) in
      let l : n / 2 + n / 2 + 1 ≤ n = omega (arith, e) in
      rw e at (power-product growth (omega arith) (lit< tt) (moderate-less (n / 2 + n / 2 + 1) l k) square (power-first growth (moderate-less 1 (omega arith) k)))
