-- `incomplete` meets its contract: the length of a record is below 65,536.
-- Assumes nothing.
use native.Mathlib.Omega.{arith}
use Prim.Native.Nat.{◌+◌, ◌<◌}
use lib.ListN.{length}
use borrow.Author.Tests.{lt-ltb}
use Rattle.record_fields.specs.Records.{next_record}
use Rattle.record_shape.specs.Faults as faults
use Rattle.record_fields.proofs.ByteLaws.{number_lt}
use Rattle.record_shape.proofs.incomplete.Goals as goal

pub returns-then-s-at : goal.returns-then-s-at
unfolding faults.incomplete
returns-then-s-at c =
    let past : length c.args.s.now < c.args.at + 2 = omega arith in
    simp (lt-ltb _ _ past)

pub overflow_add-result : goal.overflow_add-result
overflow_add-result c =
    omega (arith, number_lt c.args.s.now c.args.at 2 c.type_inv.s, c.record_length-length.ensures)

pub returns : goal.returns
unfolding next_record faults.incomplete
returns c = rw c.record_length-length.ensures
