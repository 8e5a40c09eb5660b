-- `price_factors::month_factors::lower_factor` meets its contract. Assumes nothing.
use Prim.Native.Nat.{ℕ, zero, suc}
use mathlib.Core.Path.{◌≡◌, refl}
use Rattle.pricing.specs.Rounding.{down}
use Rattle.pricing.specs.Inner.Multipliers.{factor_by}
use Rattle.price_factors.proofs.month_factors.lower_factor.Goals as goal

some-rate : (z x : ℕ) → (z ≡ 0 → ⊥) → x ≡ factor_by down z x
unfolding factor_by
some-rate zero x h = absurd (h refl)
some-rate (suc z) x h = refl

pub returns-then-rate-eq0 : goal.returns-then-rate-eq0
unfolding factor_by
returns-then-rate-eq0 c = rw c.if-rate-eq0.true

pub returns-else-rate-eq0 : goal.returns-else-rate-eq0
returns-else-rate-eq0 c = some-rate _ _ c.if-rate-eq0.false
