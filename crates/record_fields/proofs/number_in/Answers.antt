-- `number_in` meets its contract: a number of two bytes is below 65,536.
-- Assumes nothing.
use native.Mathlib.Omega.{arith}
use Rattle.record_fields.proofs.number_in.Goals as goal

pub overflow_cast-result : goal.overflow_cast-result
overflow_cast-result c = omega (arith, c.number_within.ensures.1)
