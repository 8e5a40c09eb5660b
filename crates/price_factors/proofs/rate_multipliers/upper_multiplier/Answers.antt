-- `price_factors::rate_multipliers::upper_multiplier` meets its contract. Assumes nothing.
use Prim.Native.Nat.{◌+◌, ◌-◌, ◌^◌}
use mathlib.Core.Path.{refl}
use native.Mathlib.Nat.{div-mul-le_self}
use native.Mathlib.Omega.{arith}
use Rattle.pricing.specs.Scales.{rate_scale}
use Rattle.pricing.specs.Inner.Multipliers.{multiplier_by}
use Rattle.price_factors.proofs.rate_multipliers.upper_multiplier.Goals as goal

pub overflow_mul-result : goal.overflow_mul-result
overflow_mul-result c = omega (arith, div-mul-le_self (2 ^ 64 - 1) (rate_scale + c.args.rate))

pub returns : goal.returns
unfolding multiplier_by
returns c = refl
