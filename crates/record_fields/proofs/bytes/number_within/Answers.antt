-- `number_within` meets its contract.
-- Assumes nothing.
use native.Mathlib.Omega.{arith}
use Rattle.record_fields.proofs.ByteLaws.{number-halves}
use Rattle.record_fields.proofs.bytes.number_within.Goals as goal

pub overflow_mul-result : goal.overflow_mul-result
overflow_mul-result c = omega (arith, c.run_within-then-width-eq8.ensures.1)

pub overflow_add-result : goal.overflow_add-result
overflow_add-result c = omega (arith, c.run_within.ensures.1, c.run_within-then-width-eq8.ensures.1)

pub returns-then-width-eq8 : goal.returns-then-width-eq8
returns-then-width-eq8 c =
    let start = c in
    let a = start.args in
    rw c.if-width-eq8.true (
      omega (arith, number-halves a.s.now a.at, c.run_within.ensures.0, c.run_within-then-width-eq8.ensures.0),
      omega (arith, c.run_within.ensures.1, c.run_within-then-width-eq8.ensures.1),
    )
