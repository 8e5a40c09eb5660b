-- What a table holds of a discount factor gives the factor back. Assumes nothing.
use Prim.Native.Nat.{ℕ, suc, ◌+◌, ◌*◌, ◌-◌, ◌/◌, ◌^◌, ◌≤◌, ◌<◌}
use mathlib.Core.Path.{◌≡◌, refl}
use lib.Dec.{lit<}
use native.Mathlib.Omega.{arith}
use Rattle.pricing.specs.Scales.{par}
use Rattle.pricing.specs.Rounding.{Rounding, down, up}
use Rattle.pricing.proofs.RoundingLaws.{ceiling-ge, ceiling-lt}
use Rattle.price_multipliers.specs.Multipliers.{par_multiplier, discount_multiplier, stands_for, factor_of, Discounts}

-- f × 2^63 ≤ multiplier × 10^9 < f × 2^63 + 10^9
multiplier-ge : (f : ℕ) → f * 2 ^ 63 ≤ par_multiplier f * par
multiplier-ge f = ceiling-ge (f * 2 ^ 63) par (lit< tt)

multiplier_lt : (f : ℕ) → par_multiplier f * par < f * 2 ^ 63 + par
multiplier_lt f = ceiling-lt (f * 2 ^ 63) par (lit< tt)

-- so the quotient is f again; an upper table's one less makes no difference, for a factor of 0 too
back : (f m : ℕ) → f * 2 ^ 63 ≤ m * par → m * par < f * 2 ^ 63 + par → m * par / 2 ^ 63 ≡ f
back f m ge lt = omega (arith, ge, lt)

upper-back : (f m : ℕ) → f * 2 ^ 63 ≤ m * par → m * par < f * 2 ^ 63 + par → suc (m - 1) * par / 2 ^ 63 ≡ f
upper-back f m ge lt = omega (arith, ge, lt)

pub factor-back : (ρ : Rounding) (f : ℕ) → factor_of ρ (discount_multiplier ρ f) ≡ f
unfolding factor_of stands_for discount_multiplier
factor-back down f = back f (par_multiplier f) (multiplier-ge f) (multiplier_lt f)
factor-back up f = upper-back f (par_multiplier f) (multiplier-ge f) (multiplier_lt f)

-- it stands for the factor's multiplier, in an upper table for a factor above 0
lower-stands : (f : ℕ) → stands_for down (discount_multiplier down f) ≡ par_multiplier f
unfolding stands_for discount_multiplier
lower-stands f = refl

upper-stands : (f : ℕ) → 0 < f → stands_for up (discount_multiplier up f) ≡ par_multiplier f
unfolding stands_for discount_multiplier
upper-stands f h = more f (par_multiplier f) h (multiplier-ge f)
  where
    more : (g m : ℕ) → 0 < g → g * 2 ^ 63 ≤ m * par → suc (m - 1) ≡ m
    more g m h ge = omega (arith, h, ge)

pub discounts-lower : (f : ℕ) → Discounts down (discount_multiplier down f)
discounts-lower f = rw (factor-back down f) (lower-stands f)

pub discounts-upper : (f : ℕ) → 0 < f → Discounts up (discount_multiplier up f)
discounts-upper f h = rw (factor-back up f) (upper-stands f h)
