-- The incentive that the code holds: its gain and cost are the definition's, and within the limits its figures are small. Assumes nothing.
use Prim.Native.Nat.{ℕ, ◌*◌, ◌≤◌}
use mathlib.Core.Path.{◌≡◌, refl}
use native.Mathlib.Nat.{mul-le-mul, mul-le-mul_left, sub-le}
use native.Mathlib.Omega.{arith}
use Rattle.form.specs.Limits.{coupon_limit, penalty_limit, months_limit}
use Rattle.form.specs.Shift.{shifted_limit}
use Rattle.withdrawal.specs.declared.CouponParts.{CouponParts}
use Rattle.withdrawal.specs.Gain.{gain_scale, cost_scale, gain, cost}
use Rattle.withdrawal.specs.Inner.Incentives.{parts_of, incentive_from, gain_of, Small, PartsWithin}
use Rattle.withdrawal.proofs.GainLaws.{difference-pos}

module _ {c p : ℕ} (hc : c ≤ coupon_limit) (hp : p ≤ penalty_limit) where
  pub penalty-le : c * p ≤ gain_scale
  penalty-le = omega (arith, mul-le-mul hc hp)

  pub parts_within : PartsWithin (parts_of c p)
  unfolding parts_of
  parts_within =
      record {
        share-le = sub-le gain_scale (c * p);
        forfeited-le = omega (arith, mul-le-mul hc hp);
        cost-le = mul-le-mul_left cost_scale hc;
      }

  -- its gain and its cost
  pub incentive-gain : (r n : ℕ) → gain_of (incentive_from (parts_of c p) r n) ≡ gain c p r n
  unfolding parts_of incentive_from gain_of gain
  incentive-gain r n = rw (difference-pos gain_scale (c * p) penalty-le)

  pub incentive-cost : (r n : ℕ) → (incentive_from (parts_of c p) r n).cost ≡ cost c n
  unfolding parts_of incentive_from cost
  incentive-cost r n = refl

module _ {x : CouponParts} {r n : ℕ} (hx : PartsWithin x) (hr : r ≤ shifted_limit) (hn : n ≤ months_limit) where
  pub earned-le : x.share * (r * n) ≤ gain_scale * (shifted_limit * months_limit)
  earned-le = mul-le-mul hx.share-le (mul-le-mul hr hn)

  -- its size
  pub incentive-small : Small (incentive_from x r n)
  unfolding incentive_from
  incentive-small =
      record {
        earned-le = omega (arith, earned-le);
        forfeited-le = omega (arith, hx.forfeited-le);
        cost-le = omega (arith, mul-le-mul hx.cost-le hn);
      }
