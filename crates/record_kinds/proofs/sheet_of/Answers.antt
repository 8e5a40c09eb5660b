-- `sheet_of` meets its contract. Assumes nothing.
use mathlib.Core.Path.{refl}
use Rattle.record_kinds.specs.Kinds.{sheet_of}
use Rattle.record_kinds.proofs.sheet_of.Goals as goal

pub returns : goal.returns
unfolding sheet_of
returns c = refl
