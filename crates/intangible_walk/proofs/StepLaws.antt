-- The sizes of a walk's figures, run by run. Assumes nothing.
use Prim.Native.Nat.{ℕ, suc, ◌*◌}
use mathlib.Core.List.{List}
use mathlib.Core.Path.{◌≡◌}
use native.Mathlib.Nat.{mul-le-mul_left}
use Rattle.pricing.specs.declared.Bounds.{Bounds}
use Rattle.pricing.specs.Scales.{coupon_growth}
use Rattle.price_factors.specs.Inner.Factors.{factor_in}
use Rattle.intangible.specs.Inner.Month.{Small}
use Rattle.intangible_walk.specs.declared.Walk.{Walk}
use Rattle.intangible_walk.specs.Inner.Walks.{SmallWalk, factors_at}

-- by the discount factors of a month
module _ {coupon scenario : ℕ} {lower upper : List ℕ} {w : Walk} (s : SmallWalk coupon scenario lower upper w) {factors : Bounds ℕ}
    (e : factors ≡ factors_at scenario lower upper (suc w.month)) where
  pub small-lower : Small w.runs.lower (coupon_growth * coupon) factors.lower
  unfolding factors_at factor_in
  small-lower =
      record {
        balance-le = s.lower-balance-le;
        sum-le = s.lower-sum-le;
        growth-le = mul-le-mul_left coupon_growth s.coupon-le;
        factor-le = rw e (s.lower-par _);
      }

  pub small-upper : Small w.runs.upper (coupon_growth * coupon) factors.upper
  unfolding factors_at factor_in
  small-upper =
      record {
        balance-le = s.upper-balance-le;
        sum-le = s.upper-sum-le;
        growth-le = mul-le-mul_left coupon_growth s.coupon-le;
        factor-le = rw e (s.upper-par _);
      }
