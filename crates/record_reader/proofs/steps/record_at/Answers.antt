-- `record_at` meets its contract: the length of a record is below 65,536.
-- Assumes nothing.
use native.Mathlib.Omega.{arith}
use borrow.Author.Tests.{le-leb, lt-leb}
use Rattle.record_fields.specs.Records.{next_record}
use Rattle.record_reader.specs.Inner.Steps.{step_at}
use Rattle.record_fields.proofs.ByteLaws.{number_lt}
use Rattle.record_reader.proofs.steps.record_at.Goals as goal

pub returns-then-s-at : goal.returns-then-s-at
unfolding step_at
returns-then-s-at c = simp (le-leb _ _ c.if-s-at.true)

pub overflow_add-result-2 : goal.overflow_add-result-2
overflow_add-result-2 c =
    omega (arith, number_lt c.args.s.now c.args.at 2 c.type_inv.s, c.record_length.ensures)

pub returns : goal.returns
unfolding next_record step_at
returns c = rw (← c.record_length.ensures) (simp (lt-leb _ _ c.if-s-at.false))
