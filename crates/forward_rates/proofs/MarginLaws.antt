-- The margin of a comparison is above what its figures lose, and below what one more in a growth makes. Assumes nothing.
use Prim.Native.Nat.{ℕ, ◌+◌, ◌*◌, ◌-◌, ◌≤◌, ◌<◌}
use native.Mathlib.Nat.{mul-le-mul_left}
use native.Mathlib.Omega.{arith}
use mathlib.Core.Path.{◌≡◌, ap}
use Rattle.form.specs.Limits.{sheet_months}
use Rattle.forward_rates.specs.Forwards.{growth_limit}
use Rattle.forward_rates.specs.Inner.Figures.{unit}
use Rattle.forward_rates.specs.Inner.Searches.{yield_loss, term_loss, margin}

-- what the figure of an accumulated yield keeps of 2^27
abbrev pub kept : ℕ
kept = unit - yield_loss

-- what the figure of a power over n months keeps of it, and what is left of it behind the margin
pub record Kept (n power left : ℕ) : Type 0 where
  pub some : 0 < n
  pub within : n ≤ sheet_months
  pub power-is : power + term_loss n ≡ unit
  pub left_is : left + margin n ≡ unit

module _ {n a b : ℕ} (k : Kept n a b) where
  -- what is left behind the margin is not above what the figures of both factors keep
  pub left_le : b * unit ≤ a * kept
  left_le = omega (arith, k.power-is, k.left_is)

  -- with the margin the loss of one figure is made up for
  pub more-ge : unit * unit ≤ kept * (unit + margin n)
  more-ge = omega (arith, k.some)

  -- one more in a growth makes up for twice the margin: (64 n + 480) (g + n) ≤ 2^27 n, since g + n is at most 190,608
  module _ (g : ℕ) (h : g ≤ growth_limit) where
    twice-le : 2 * margin n * (g + n) ≤ unit * n
    twice-le =
        let most : g + n ≤ growth_limit + sheet_months = omega (arith, k.within) in
        omega (arith, k.some, mul-le-mul_left (2 * margin n) most)

    pub above-ge : unit * unit * g ≤ b * kept * (g + n)
    above-ge = omega (arith, k.some, twice-le, ap (λ (x : ℕ). x * (g + n)) k.left_is)

    -- with q = a (g + n): g (2^27 + margin) + 240 (g + n) ≤ q ≤ 2^27 (g + n)
    pub below-ge : g * (unit + margin n) * unit ≤ a * (g + n) * kept
    below-ge =
        let times = ap (λ (x : ℕ). x * (g + n)) k.power-is in
        by (g * (unit + margin n)) (a * (g + n)) (omega (arith, twice-le, times)) (omega (arith, times))
      where
        by : (s q : ℕ) → s + yield_loss * (g + n) ≤ q → q ≤ unit * (g + n) → s * unit ≤ q * kept
        by s q most least = omega (arith, most, least)
