-- Where the filed term leaves a cell: the walk that begins there, the first product, and the results. Assumes nothing.
use Prim.Native.Nat.{ℕ, ◌≤◌, ◌<◌, ◌^◌}
use mathlib.Core.Path.{◌≡◌, ap, ◌∙◌}
use mathlib.Core.List.{List}
use lib.IntN.{ℤ, pos, ◌-ℤ◌}
use mir.Syntax.{w64}
use mir.Val.{to_z, of_z}
use mir.Facts.{to_z-of_z}
use native.Mathlib.Nat.{le_refl}
use native.Mathlib.Omega.{arith}
use Rattle.fraction.proofs.SignedLaws.{difference-small}
use Rattle.withdrawal.specs.declared.WithdrawalTiers.{WithdrawalTiers}
use Rattle.pricing.specs.declared.Bounds.{Bounds}
use Rattle.pricing.specs.Scales.{par}
use Rattle.pricing.specs.Rounding.{down, up}
use Rattle.price_factors.specs.Inner.Factors.{factor_in, AtMostPar}
use Rattle.intangible.specs.RollingTerms.{RollingTerms}
use Rattle.intangible.specs.Run.{first_by}
use Rattle.intangible.specs.Bounded.{RollingBounded, rolled_coupon_limit, rolled_limit}
use Rattle.intangible.specs.Inner.Month.{product_by}
use Rattle.intangible.proofs.RunLaws.{rolled-on}
use Rattle.intangible.proofs.ResultLaws.{sum-limit}
use Rattle.intangible_walk.specs.declared.Walk.{Walk}
use Rattle.intangible_walk.specs.Inner.Walks.{walk_at, sums_by, Walkable, Standing}
use Rattle.intangible_walk.proofs.WalkLaws.{standing-at}
use Rattle.intangible_cells.specs.Inner.Filed.{rolled_bounds, products_of}

module _ (k : RollingTerms) (scenario : ℕ) (lower upper : List ℕ) where
  -- what rolls over at T is where the walk begins
  start_is : {rolled : Bounds ℕ} → rolled ≡ rolled_bounds k
      → record { month = k.months; runs = record { lower = record { balance = rolled.lower; sum = 0 }; upper = record { balance = rolled.upper; sum = 0 } } }
      ≡ walk_at k scenario lower upper k.months
  unfolding rolled_bounds walk_at
  start_is e = rw (e, rolled-on down k (factor_in lower scenario), rolled-on up k (factor_in upper scenario))

  pub start-standing : RollingBounded rolled_coupon_limit k → {rolled : Bounds ℕ} {w : Walk} → rolled ≡ rolled_bounds k
      → w ≡ record { month = k.months; runs = record { lower = record { balance = rolled.lower; sum = 0 }; upper = record { balance = rolled.upper; sum = 0 } } }
      → Standing k scenario lower upper w
  start-standing b e f =
      standing-at k scenario lower upper k.months (f ∙ start_is e) (le_refl k.months) (omega (arith, b.months-limit, b.horizon-is))

  -- its first product
  pub first-is : {rolled first : Bounds ℕ} → rolled ≡ rolled_bounds k → first ≡ products_of rolled k.months scenario lower upper
      → first ≡ record { lower = first_by down k (factor_in lower scenario); upper = first_by up k (factor_in upper scenario) }
  unfolding rolled_bounds products_of product_by first_by
  first-is e f = f ∙ rw e

  -- the sums are within the limits
  module _ {column : ℕ} {rates : List ℕ} {tiers : WithdrawalTiers} (a : Walkable k column scenario rates tiers lower upper) {sums : Bounds ℕ}
      (e : sums ≡ sums_by k scenario lower upper) where
    factor-le : (factors : List ℕ) → AtMostPar factors → (t : ℕ) → factor_in factors scenario t ≤ par
    unfolding factor_in
    factor-le factors h t = h _

    pub lower-sum-limit : sums.lower ≤ rolled_limit
    unfolding sums_by
    lower-sum-limit =
        rw (ap (λ (x : Bounds ℕ). x.lower) e)
        (sum-limit k a.bounded down (factor_in lower scenario) (factor-le lower a.lower-par) k.horizon (omega (arith, a.bounded.horizon-is)))

    pub upper-sum-limit : sums.upper ≤ rolled_limit
    unfolding sums_by
    upper-sum-limit =
        rw (ap (λ (x : Bounds ℕ). x.upper) e)
        (sum-limit k a.bounded up (factor_in upper scenario) (factor-le upper a.upper-par) k.horizon (omega (arith, a.bounded.horizon-is)))

-- a difference comes back as it is
pub signed_back : {r : ℤ} (a b : ℕ) → r ≡ pos a -ℤ pos b → a < 2 ^ 63 → b < 2 ^ 63 → to_z w64 (of_z w64 r) ≡ r
signed_back a b e ha hb = to_z-of_z {w = w64} (record { sfits = rw e (difference-small a b (2 ^ 63) ha hb) })
