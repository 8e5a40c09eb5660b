-- The results: how far apart they stand, by the highest coupon of any term, and that every figure of the run within the limits fits 64 bits. Assumes nothing.
use Prim.Native.Nat.{ℕ, ◌+◌, ◌*◌, ◌/◌, ◌≤◌}
use mathlib.Core.Path.{sym, subst}
use lib.Dec.{lit≤}
use lib.IntN.{pos, ◌+ℤ◌}
use lib.Signed.{◌≤ℤ◌}
use native.Mathlib.Nat.{le_trans}
use native.Mathlib.Omega.{arith}
use Rattle.fraction.proofs.EnclosureLaws.{encloses-le}
use Rattle.fraction.proofs.SignedLaws.{difference-le, difference-add}
use Rattle.form.specs.Limits.{months_limit}
use Rattle.pricing.specs.Scales.{par}
use Rattle.pricing.specs.Rounding.{Rounding, down, up, quotient}
use Rattle.pricing.specs.Run.{discount_factor_by}
use Rattle.pricing.proofs.MonthLaws.{grown, distance, distance-mono}
use Rattle.pricing.proofs.FlowWidthLaws.{discounted-le-paid}
use Rattle.intangible.specs.RollingTerms.{RollingTerms, first_balance, last_month}
use Rattle.intangible.specs.Run.{opening_by, later_flow_by, first_by, sum_by, lower_intangible, upper_intangible}
use Rattle.intangible.specs.Bounded.{RollingBounded, rolled_coupon_limit, rolled_limit, width_limit}
use Rattle.intangible.proofs.EnclosureLaws.{opening-encloses}
use Rattle.intangible.proofs.AmountLaws.{over_by, apart, amount-le}
use Rattle.intangible.proofs.WidthLaws.{paid-limit, first_width, total-width}

-- how far apart results can stand with coupons of at most `limit` thousandths of a percent, millionths: the distances of what is paid and of what rolls over
-- at T, what the widths of the discount factors make of them, and two roundings a month
abbrev pub width_for : ℕ → ℕ
width_for limit =
    apart limit 0 last_month + apart limit 0 months_limit
    + (apart limit first_balance last_month * last_month + apart limit first_balance months_limit * months_limit) / par + 723

module _ (limit : ℕ) (k : RollingTerms) (b : RollingBounded limit k) (z : ℕ → ℕ) where
  -- (first + sum) upper less lower
  apart-le : first_by up k (discount_factor_by up z) + sum_by up k (discount_factor_by up z) last_month
      ≤ first_by down k (discount_factor_by down z) + sum_by down k (discount_factor_by down z) last_month + width_for limit
  apart-le = omega (arith, first_width limit k b z, total-width limit k b z)

  pub intangible-apart : (width : ℕ) → width_for limit ≤ width → upper_intangible k z ≤ℤ (lower_intangible k z +ℤ pos width)
  unfolding lower_intangible upper_intangible
  intangible-apart width h =
      rw (difference-add (first_by down k (discount_factor_by down z)) (sum_by up k (discount_factor_by up z) k.horizon) width)
      (difference-le (first_by up k (discount_factor_by up z)) (sum_by down k (discount_factor_by down z) k.horizon)
      (first_by down k (discount_factor_by down z) + width) (sum_by up k (discount_factor_by up z) k.horizon) (omega (arith, to-horizon)))
    where
      to-horizon : first_by up k (discount_factor_by up z) + sum_by up k (discount_factor_by up z) k.horizon
          ≤ first_by down k (discount_factor_by down z) + sum_by down k (discount_factor_by down z) k.horizon + width_for limit
      to-horizon =
          subst
          (λ (n : ℕ). first_by up k (discount_factor_by up z) + sum_by up k (discount_factor_by up z) n
          ≤ first_by down k (discount_factor_by down z) + sum_by down k (discount_factor_by down z) n + width_for limit)
          (sym b.horizon-is) apart-le

-- with the highest coupons that a filing can bring, and where none is above 10 percent
pub width-limit : width_for rolled_coupon_limit ≤ width_limit
unfolding distance grown quotient
width-limit = lit≤ tt

pub width-ten-percent : width_for 10000 ≤ 17460
unfolding distance grown quotient
width-ten-percent = lit≤ tt

amount-limit : {t : ℕ} → t ≤ last_month → apart rolled_coupon_limit first_balance t ≤ rolled_limit
unfolding distance grown quotient
amount-limit h = le_trans (distance-mono (over_by rolled_coupon_limit) 6 first_balance h) (lit≤ tt)

-- terms within the limits of a filing
module _ (k : RollingTerms) (b : RollingBounded rolled_coupon_limit k) where
  pub opening-limit : (ρ : Rounding) (t : ℕ) → t ≤ last_month → opening_by ρ k t ≤ rolled_limit
  opening-limit down t h = omega (arith, encloses-le (opening-encloses k t), amount-le rolled_coupon_limit k b t, amount-limit h)
  opening-limit up t h = omega (arith, amount-le rolled_coupon_limit k b t, amount-limit h)

  -- with discount factors of at most par
  module _ (ρ : Rounding) (df : ℕ → ℕ) (hd : (t : ℕ) → df t ≤ par) where
    pub sum-limit : (n : ℕ) → n ≤ last_month → sum_by ρ k df n ≤ rolled_limit
    unfolding sum_by
    sum-limit n h =
        le_trans (discounted-le-paid ρ (later_flow_by ρ k) df hd n) (le_trans (paid-limit rolled_coupon_limit k b ρ n (rw b.horizon-is h)) (amount-limit h))
