-- `names_cell` meets its contract.
-- Assumes nothing.
use Rattle.record_kinds.specs.Kinds.{names_cell}
use Rattle.record_kinds.proofs.names_cell.Goals as goal

pub returns : goal.returns
unfolding names_cell
returns c = rw c.gives_cell.ensures
