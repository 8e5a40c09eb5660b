-- `price_factors::rate_multipliers::lower_multiplier` meets its contract. Assumes nothing.
use Prim.Native.Nat.{ℕ, zero, suc, ◌+◌, ◌^◌, ◌≤◌, ◌<◌}
use native.Mathlib.Omega.{arith}
use mathlib.Core.Path.{◌≡◌, refl}
use Rattle.form.specs.Shift.{shifted_limit}
use Rattle.pricing.specs.Scales.{rate_scale}
use Rattle.pricing.specs.Rounding.{down, up}
use Rattle.pricing.specs.Inner.Multipliers.{multiplier_by}
use Rattle.pricing.proofs.MultiplierLaws.{one-part-more, lower-fits}
use Rattle.price_factors.proofs.rate_multipliers.lower_multiplier.Goals as goal

-- of a rate above 0
fits : (z : ℕ) → z ≤ shifted_limit → (z ≡ 0 → ⊥) → multiplier_by up z + rate_scale < 2 ^ 64
fits zero h some = absurd (some refl)
fits (suc z) h some = lower-fits z h

more : (z : ℕ) → (z ≡ 0 → ⊥) → multiplier_by up z + rate_scale ≡ multiplier_by down z
more zero some = absurd (some refl)
more (suc z) some = one-part-more z

pub returns-then-rate-eq0 : goal.returns-then-rate-eq0
unfolding multiplier_by
returns-then-rate-eq0 c = rw c.if-rate-eq0.true

pub overflow_add-result : goal.overflow_add-result
overflow_add-result c = omega (arith, fits _ c.requires.0 c.if-rate-eq0.false, c.requires.1)

pub returns-else-rate-eq0 : goal.returns-else-rate-eq0
returns-else-rate-eq0 c = rw c.requires.1 (more _ c.if-rate-eq0.false)
