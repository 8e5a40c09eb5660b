-- Sums of fractions over indices that pass a test. Definitions only.
use Rattle.std.specs.Prelude.{ℕ, zero, suc, Bool, cond}
use Rattle.fraction.specs.Fraction.{Fraction, whole, plus}

-- f 0 + f 1 + .. + f (n - 1), of the indices whose test passes
unfoldable pub total_where : (ℕ → Bool) → (ℕ → Fraction) → ℕ → Fraction
total_where test f zero = whole 0
total_where test f (suc n) = plus (total_where test f n) (cond (test n) (f n) (whole 0))
