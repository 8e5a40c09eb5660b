-- Laws of the rounded quotient. Assumes nothing.
use Prim.Native.Nat.{ℕ, ◌+◌, ◌*◌, ◌-◌, ◌≤◌, ◌<◌}
use mathlib.Core.Path.{◌≡◌}
use native.Mathlib.Nat.{le_trans, le_of_suc-le-suc, le_of_mul-le-mul_right, lt_of_mul-lt-mul_right, div-mul-le_self, lt-div-mul-add}
use native.Mathlib.Omega.{arith}
use Rattle.pricing.specs.Rounding.{Rounding, down, up, quotient}

-- the floor times d is at most n, and less than d below it
pub floor-le : (n d : ℕ) → quotient down n d * d ≤ n
unfolding quotient
floor-le n d = div-mul-le_self n d

pub floor-gt : (n d : ℕ) → 0 < d → n < quotient down n d * d + d
unfolding quotient
floor-gt n d pos = lt-div-mul-add pos

-- the ceiling times d is at least n, and less than d above it
pub ceiling-ge : (n d : ℕ) → 0 < d → n ≤ quotient up n d * d
unfolding quotient
ceiling-ge n d pos = omega (arith, lt-div-mul-add {a = n + (d - 1)} pos)

pub ceiling-lt : (n d : ℕ) → 0 < d → quotient up n d * d < n + d
unfolding quotient
ceiling-lt n d pos = omega (arith, div-mul-le_self (n + (d - 1)) d)

-- a quotient of at most d × m is at most m, at either rounding
pub quotient_le : (ρ : Rounding) (n d m : ℕ) → 0 < d → n ≤ m * d → quotient ρ n d ≤ m
quotient_le down n d m pos h = le_of_mul-le-mul_right (le_trans (floor-le n d) h) pos
quotient_le up n d m pos h = le_of_suc-le-suc (lt_of_mul-lt-mul_right d (omega (arith, ceiling-lt n d pos)))

-- nothing divided is nothing, at either rounding
pub quotient-zero : (ρ : Rounding) (m d : ℕ) → 0 < d → quotient ρ (0 * m) d ≡ 0
quotient-zero ρ m d pos = let h : quotient ρ (0 * m) d ≤ 0 = quotient_le ρ (0 * m) d 0 pos (omega arith) in omega arith
