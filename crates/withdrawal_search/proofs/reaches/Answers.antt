-- `withdrawal_search::reaches` meets its contract. Assumes nothing.
use mathlib.Core.Path.{sym}
use native.Mathlib.Nat.{mul-le-mul}
use native.Mathlib.Omega.{arith}
use Rattle.withdrawal.proofs.GainLaws.{reached-iff}
use Rattle.withdrawal_search.proofs.reaches.Goals as goal

pub overflow_mul-result : goal.overflow_mul-result
overflow_mul-result c = omega (arith, mul-le-mul c.requires.1 c.requires.0.cost-le)

pub overflow_add-result : goal.overflow_add-result
overflow_add-result c = omega (arith, mul-le-mul c.requires.1 c.requires.0.cost-le)

pub returns : goal.returns
returns c = sym (reached-iff _ _)
