-- `unlisted` meets its contract.
-- Assumes nothing.
use Rattle.record_shape.proofs.unlisted.Goals as goal

pub returns : goal.returns
returns c = rw (c.record_class.ensures, c.names_cell.ensures, c.record_kind.ensures)
