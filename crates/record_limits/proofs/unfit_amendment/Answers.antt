-- `unfit_amendment` meets its contract: the fields and the limit are the record's.
-- Assumes nothing.
use Rattle.record_limits.specs.Bodies.{unfit_amendment}
use Rattle.record_limits.proofs.unfit_amendment.Goals as goal

-- the limit is that of the class of the record's cell, and number, state and value are read where they stand: the test over the four numbers
-- is that of the record
pub returns : goal.returns
unfolding unfit_amendment
returns c =
    rw (
      ← c.record_cell.ensures,
      ← c.cell_class.ensures,
      ← c.class_limit-limit.ensures,
      ← c.amendment_number.ensures,
      ← c.amendment_state.ensures,
      ← c.amendment_value.ensures,
    )
    c.unfit_for.ensures
