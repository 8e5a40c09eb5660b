-- One month: how far the upper figures of balance and outflow can come away from the lower ones; and how far after some months. Assumes nothing.
use Prim.Native.Nat.{ℕ, zero, suc, ◌+◌, ◌*◌, ◌-◌, ◌≤◌}
use mathlib.Core.Path.{◌≡◌, ap, subst, subst₂}
use lib.Dec.{lit<}
use native.Mathlib.Nat.{zero-add, suc-add, mul-le-mul_left, mul-le-mul_right, le_refl, le_trans, add-sub_of_le, sub-add_cancel}
use native.Mathlib.Omega.{arith}
use Rattle.pricing.specs.Scales.{par}
use Rattle.pricing.specs.Rounding.{down, up, quotient}
use Rattle.pricing.proofs.RoundingLaws.{floor-gt, ceiling-ge, ceiling-lt, quotient_le}

-- a distance d after a month: `over` is the most that growth and servicing add to a balance of 3 × 10^9, and so many roundings
unfoldable pub grown : ℕ → ℕ → ℕ → ℕ
grown over roundings d = d + quotient up (d * over) (3 * par) + roundings

pub grown-mono : (over : ℕ) {d e : ℕ} → d ≤ e → quotient up (d * over) (3 * par) ≤ quotient up (e * over) (3 * par)
grown-mono over {d} {e} h =
    quotient_le up (d * over) (3 * par) (quotient up (e * over) (3 * par)) (lit< tt)
    (le_trans (mul-le-mul_right over h) (ceiling-ge (e * over) (3 * par) (lit< tt)))

-- Balance and outflow of a month together, from an opening balance l below and l + d above. With q survivals and e withdrawals of 10^9:
-- 3 × 10^9 × (upper - lower) < d × (growth + 3 q) + 3 d × (servicing + e) + 12 × 10^9, and growth + 3 servicing ≤ over
month-step : (over growth servicing q e l d : ℕ) → growth + 3 * servicing ≤ over → q + e ≡ par
    → quotient up ((l + d) * (growth + 3 * q)) (3 * par) + quotient up ((l + d) * (servicing + e)) par
    ≤ quotient down (l * (growth + 3 * q)) (3 * par) + quotient down (l * (servicing + e)) par + grown over 4 d
unfolding grown
month-step over growth servicing q e l d hg hq =
    omega (
      arith,
      ceiling-lt ((l + d) * (growth + 3 * q)) (3 * par) (lit< tt),
      floor-gt (l * (growth + 3 * q)) (3 * par) (lit< tt),
      ceiling-lt ((l + d) * (servicing + e)) par (lit< tt),
      floor-gt (l * (servicing + e)) par (lit< tt),
      ceiling-ge (d * over) (3 * par) (lit< tt),
      mul-le-mul_left d hg,
      ap (λ (v : ℕ). d * v) hq,
    )

-- the same from any opening balances l ≤ u, with q survivals
pub month-lines : (over growth servicing q l u : ℕ) → growth + 3 * servicing ≤ over → q ≤ par → l ≤ u
    → quotient up (u * (growth + 3 * q)) (3 * par) + quotient up (u * (servicing + par - q)) par
    ≤ quotient down (l * (growth + 3 * q)) (3 * par) + quotient down (l * (servicing + par - q)) par + grown over 4 (u - l)
month-lines over growth servicing q l u hg hq h =
    subst₂
    (λ (v s : ℕ). quotient up (v * (growth + 3 * q)) (3 * par) + quotient up (v * s) par ≤ quotient down (l * (growth + 3 * q)) (3 * par) + quotient down (l * s) par
    + grown over 4 (u - l))
    (add-sub_of_le h) same (month-step over growth servicing q (par - q) l (u - l) hg (add-sub_of_le hq))
  where
    same : servicing + (par - q) ≡ servicing + par - q
    same = omega arith

-- a distance after some months
unfoldable pub distance : ℕ → ℕ → ℕ → ℕ → ℕ
distance over roundings start zero = start
distance over roundings start (suc t) = grown over roundings (distance over roundings start t)

module _ (over roundings start : ℕ) where
  distance-suc : (t : ℕ) → distance over roundings start t ≤ distance over roundings start (suc t)
  unfolding distance grown
  distance-suc t = omega arith

  distance-add : (t n : ℕ) → distance over roundings start t ≤ distance over roundings start (n + t)
  distance-add t zero = rw zero-add (le_refl (distance over roundings start t))
  distance-add t (suc n) = rw suc-add (le_trans (distance-add t n) (distance-suc (n + t)))

  pub distance-mono : {t n : ℕ} → t ≤ n → distance over roundings start t ≤ distance over roundings start n
  distance-mono {t} {n} h =
      subst (λ (m : ℕ). distance over roundings start t ≤ distance over roundings start m) (sub-add_cancel h) (distance-add t (n - t))
