-- `holds` meets its contract.
-- Assumes nothing.
use mathlib.Core.Path.{refl}
use Rattle.record_checks.specs.Members.{bit, member}
use Rattle.record_checks.proofs.number_set.holds.Goals as goal

pub returns : goal.returns
unfolding bit member
returns c = refl
