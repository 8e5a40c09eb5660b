-- `price_rounding::values::value_of` meets its contract. Assumes nothing.
use native.Mathlib.Nat.{mul-le-mul}
use native.Mathlib.Omega.{arith}
use Rattle.price_rounding.proofs.values.value_of.Goals as goal

pub overflow_mul-balance : goal.overflow_mul-balance
overflow_mul-balance c = omega (arith, mul-le-mul c.requires.0 c.requires.1)

pub quotient-requires : goal.quotient-requires
quotient-requires c = omega (arith, mul-le-mul c.requires.0 c.requires.1)
