-- The months of the filed term: their balances are those of the definitions, and within the limits. Assumes nothing.
use Prim.Native.Nat.{ℕ, suc, ◌+◌, ◌*◌, ◌-◌, ◌≤◌, ◌<◌, zero-le}
use mathlib.Core.Path.{◌≡◌, subst, ◌∙◌}
use native.Mathlib.Nat.{le_of_lt, mul-le-mul_left}
use native.Mathlib.Numerals.{add-one}
use native.Mathlib.Omega.{arith}
use Rattle.pricing.specs.Scales.{par, coupon_growth}
use Rattle.pricing.specs.Rounding.{Rounding, down, up}
use Rattle.intangible.specs.RollingTerms.{RollingTerms}
use Rattle.intangible.specs.RolledMonths.{month_survival, month_growth}
use Rattle.intangible.specs.Run.{opened_by, balance_by, opening_by}
use Rattle.intangible.specs.Bounded.{RollingBounded, rolled_coupon_limit, rolled_limit}
use Rattle.intangible.specs.Inner.Month.{closing_by}
use Rattle.intangible.proofs.TermLaws.{filed-end, filed-coupon, filed-within}
use Rattle.intangible.proofs.RunLaws.{survival-before, survival-end, filed-on}
use Rattle.intangible.proofs.ResultLaws.{opening-limit}
use Rattle.intangible_cells.specs.Inner.Filed.{balances_at}

module _ (k : RollingTerms) (b : RollingBounded rolled_coupon_limit k) where
  -- the filed term ends before the horizon
  before-horizon : (t : ℕ) → t ≤ k.months → t < k.horizon
  before-horizon t h = omega (arith, b.months-limit, b.horizon-is)

  pub balance-limit : (ρ : Rounding) (t : ℕ) → t < k.months → balance_by ρ k t ≤ rolled_limit
  unfolding opening_by opened_by
  balance-limit ρ t h = rw (filed-within k t h) at (opening-limit k b ρ t (omega (arith, b.months-limit)))

  -- growth of a month of it
  growth-is : (t : ℕ) → t < k.months → month_growth k (suc t) ≡ coupon_growth * k.coupon
  unfolding month_growth
  growth-is t h = rw (filed-coupon k (suc t) h)

  -- a month before its last, and its last
  pub early-filed : (ρ : Rounding) (t : ℕ) → suc t < k.months
      → closing_by ρ (coupon_growth * k.coupon) (k.survival k.coupon (k.rate (suc t)) (k.months - suc t)) (balance_by ρ k t) ≡ balance_by ρ k (suc t)
  early-filed ρ t h =
      let end = filed-end k (suc t) (le_of_lt h) in
      let q : month_survival k (suc t) ≡ k.survival k.coupon (k.rate (suc t)) (k.months - suc t) =
      survival-before k t (rw end h) (before-horizon (suc t) (le_of_lt h)) ∙ rw (end, filed-coupon k (suc t) (le_of_lt h)) in
      rw (← q, ← (growth-is t (le_of_lt h))) (filed-on ρ k t (le_of_lt h))

  pub last-filed : (ρ : Rounding) (t : ℕ) → suc t ≡ k.months → closing_by ρ (coupon_growth * k.coupon) par (balance_by ρ k t) ≡ balance_by ρ k k.months
  last-filed ρ t e =
      let h : suc t ≤ k.months = omega (arith, e) in
      let q : month_survival k (suc t) ≡ par = survival-end k t (rw (filed-end k (suc t) h) e) in
      subst (λ (n : ℕ). closing_by ρ (coupon_growth * k.coupon) par (balance_by ρ k t) ≡ balance_by ρ k n) e
      (rw (← q, ← (growth-is t h)) (filed-on ρ k t h))

  pub coupon-le : k.coupon ≤ rolled_coupon_limit
  coupon-le = rw (filed-coupon k 0 zero-le) at (b.coupon-limit 0)

  pub growth-le : coupon_growth * k.coupon ≤ coupon_growth * rolled_coupon_limit
  growth-le = mul-le-mul_left coupon_growth coupon-le

-- balances after t months of the filed term
pub record FiledTo (k : RollingTerms) (t lower upper : ℕ) : Type 0 where
  pub before : t < k.months
  pub lower-is : lower ≡ balance_by down k t
  pub upper_is : upper ≡ balance_by up k t

module _ (k : RollingTerms) (b : RollingBounded rolled_coupon_limit k) {t lower upper : ℕ} (f : FiledTo k t lower upper) where
  -- they are within the limits
  pub lower-limit : lower ≤ rolled_limit
  lower-limit = rw f.lower-is (balance-limit k b down t f.before)

  pub upper-limit : upper ≤ rolled_limit
  upper-limit = rw f.upper_is (balance-limit k b up t f.before)

  -- one month more
  pub filed-next : {q l u : ℕ} → t + 1 < k.months → q ≡ k.survival k.coupon (k.rate (t + 1)) (k.months - (t + 1))
      → l ≡ closing_by down (coupon_growth * k.coupon) q lower → u ≡ closing_by up (coupon_growth * k.coupon) q upper → FiledTo k (t + 1) l u
  filed-next h eq el eu =
      let s = rw add-one at h in
      rw add-one
      (record {
        before = s;
        lower-is = el ∙ rw (eq, f.lower-is, add-one) (early-filed k b down t s);
        upper_is = eu ∙ rw (eq, f.upper_is, add-one) (early-filed k b up t s);
      })

  -- the last month
  pub filed-last : {l u : ℕ} → k.months ≤ t + 1 → l ≡ closing_by down (coupon_growth * k.coupon) par lower
      → u ≡ closing_by up (coupon_growth * k.coupon) par upper → record { lower = l; upper = u } ≡ balances_at k k.months
  unfolding balances_at
  filed-last h el eu =
      let e : suc t ≡ k.months = omega (arith, f.before) in
      rw (el, eu, f.lower-is, f.upper_is, last-filed k b down t e, last-filed k b up t e)
