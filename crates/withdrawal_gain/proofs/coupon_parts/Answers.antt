-- `withdrawal_gain::coupon_parts` meets its contract. Assumes nothing.
use mathlib.Core.Path.{refl}
use native.Mathlib.Omega.{arith}
use Rattle.withdrawal.specs.Inner.Incentives.{parts_of}
use Rattle.withdrawal.proofs.IncentiveLaws.{penalty-le}
use Rattle.withdrawal_gain.proofs.coupon_parts.Goals as goal

pub overflow_mul-result : goal.overflow_mul-result
overflow_mul-result c = omega (arith, penalty-le c.requires.0 c.requires.1)

pub overflow_sub-result : goal.overflow_sub-result
overflow_sub-result c = omega (arith, penalty-le c.requires.0 c.requires.1)

pub overflow_mul-result-3 : goal.overflow_mul-result-3
overflow_mul-result-3 c = omega (arith, penalty-le c.requires.0 c.requires.1)

pub returns : goal.returns
unfolding parts_of
returns c = refl
