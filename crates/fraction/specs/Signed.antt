-- Exact figures that may be negative (02:CR 9): a whole numerator of either sign over a whole denominator, compared by cross products (01:58).
-- Definitions only.
use Rattle.std.specs.Prelude.{ℕ, ◌*◌, ◌<◌, ℤ, pos, ◌-ℤ◌, ◌*ℤ◌, ◌≤ℤ◌}
use Rattle.fraction.specs.Fraction.{Fraction}

-- numerator / denominator. Meant with a positive denominator: `SignedEncloses` says so of the fraction that it speaks of
pub record SignedFraction : Type 0 where
  pub numerator : ℤ
  pub denominator : ℕ

-- x - y
unfoldable pub minus : Fraction → Fraction → SignedFraction
minus x y =
    record {
      numerator = pos (x.numerator * y.denominator) -ℤ pos (y.numerator * x.denominator);
      denominator = x.denominator * y.denominator;
    }

-- nothing
unfoldable pub none : SignedFraction
none = record { numerator = pos 0; denominator = 1 }

-- the integers lower and upper enclose x: lower is at most x and upper at least x, by cross products
pub record SignedEncloses (lower : ℤ) (x : SignedFraction) (upper : ℤ) : Type 0 where
  pub positive : 0 < x.denominator
  pub below : (lower *ℤ pos x.denominator) ≤ℤ x.numerator
  pub above : x.numerator ≤ℤ (upper *ℤ pos x.denominator)
