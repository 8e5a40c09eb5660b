-- `exports::cells::spritapricot_cells` keeps the promise of `to_cells`. Assumes nothing.
use mathlib.Core.Path.{refl}
use Rattle.exports.proofs.ConvertedLaws.{converted-refused, converted-accepted}
use Rattle.exports.proofs.cells.spritapricot_cells.Goals as goal

pub returns-in-Ok : goal.returns-in-Ok
returns-in-Ok c = record { converted = converted-accepted _ _ _ _ _ _ c.in-Ok.ensures.converted refl (rw c.as_slice.ensures.value at c.cell_numbers.ensures) }

pub returns-in-Err : goal.returns-in-Err
returns-in-Err c = record { converted = converted-refused _ _ _ _ _ _ c.in-Err.ensures.converted c.refused.ensures.0 c.refused.ensures.1 }
