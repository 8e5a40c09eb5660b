-- `withdrawal_gain::gain_and_cost` meets its contract. Assumes nothing.
use mathlib.Core.Path.{refl}
use native.Mathlib.Nat.{mul-le-mul}
use native.Mathlib.Omega.{arith}
use Rattle.withdrawal.specs.Inner.Incentives.{incentive_from}
use Rattle.withdrawal.proofs.IncentiveLaws.{earned-le}
use Rattle.withdrawal_gain.proofs.gain_and_cost.Goals as goal

pub overflow_mul-result : goal.overflow_mul-result
overflow_mul-result c = omega (arith, mul-le-mul c.requires.1 c.requires.2)

pub overflow_mul-result-2 : goal.overflow_mul-result-2
overflow_mul-result-2 c = record { fits = omega (arith, earned-le c.requires.0 c.requires.1 c.requires.2) }

pub overflow_mul-result-3 : goal.overflow_mul-result-3
overflow_mul-result-3 c = omega (arith, mul-le-mul c.requires.0.cost-le c.requires.2)

pub returns : goal.returns
unfolding incentive_from
returns c = refl
