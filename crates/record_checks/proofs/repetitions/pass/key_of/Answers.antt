-- `key_of` meets its contract.
-- Assumes nothing.
use mathlib.Core.Path.{refl}
use Rattle.record_checks.specs.Inner.Repetitions.{key_of}
use Rattle.record_checks.proofs.repetitions.pass.key_of.Goals as goal

pub returns : goal.returns
unfolding key_of
returns c = refl
