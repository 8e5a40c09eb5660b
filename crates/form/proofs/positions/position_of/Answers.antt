-- `position_of` meets its contract. Assumes nothing.
use mathlib.Core.Path.{refl}
use Rattle.form.specs.Cells.{position}
use Rattle.form.proofs.positions.position_of.Goals as goal

pub returns : goal.returns
unfolding position
returns c = refl
