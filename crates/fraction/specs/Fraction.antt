-- Exact fractions: a pair of whole numbers, numerator and denominator (document 01, "Shifts, withdrawals, months": "An exact figure is a
-- pair of whole numbers"). Compared by cross products. Definitions only.
use Rattle.std.specs.Prelude.{ℕ, ◌+◌, ◌*◌, ◌≤◌, ◌<◌}

-- numerator / denominator. Meant with a positive denominator: `Encloses` says so of the fraction that it speaks of
pub record Fraction : Type 0 where
  pub numerator : ℕ
  pub denominator : ℕ

-- the whole number n as a fraction
unfoldable pub whole : ℕ → Fraction
whole n = record { numerator = n; denominator = 1 }

-- x × m / d
unfoldable pub scaled : Fraction → ℕ → ℕ → Fraction
scaled x m d = record { numerator = x.numerator * m; denominator = x.denominator * d }

-- x × y
unfoldable pub product : Fraction → Fraction → Fraction
product x y = record { numerator = x.numerator * y.numerator; denominator = x.denominator * y.denominator }

-- x + y
unfoldable pub plus : Fraction → Fraction → Fraction
plus x y =
    record {
      numerator = x.numerator * y.denominator + y.numerator * x.denominator;
      denominator = x.denominator * y.denominator;
    }

-- the whole numbers lower and upper enclose x: lower is at most x and upper at least x, by cross products
pub record Encloses (lower : ℕ) (x : Fraction) (upper : ℕ) : Type 0 where
  pub positive : 0 < x.denominator
  pub below : lower * x.denominator ≤ x.numerator
  pub above : x.numerator ≤ upper * x.denominator
