-- `gives_cell` meets its contract.
-- Assumes nothing.
use mathlib.Core.Path.{refl}
use Rattle.record_kinds.specs.Kinds.{gives_cell}
use Rattle.record_kinds.proofs.gives_cell.Goals as goal

pub returns : goal.returns
unfolding gives_cell
returns c = refl
