-- `misshapen` meets its contract.
-- Assumes nothing.
use Rattle.record_shape.proofs.misshapen.Goals as goal

pub returns : goal.returns
returns c = rw (c.due_length.ensures, c.record_length.ensures)
