-- `write_signed` meets its contract: a part of the list becomes the run. Assumes nothing.
use native.Mathlib.Omega.{arith}
use Rattle.lists.proofs.RunLaws.{run-replaced}
use Rattle.intangible_numbers.proofs.signed.write_signed.Goals as goal

pub returns : goal.returns
returns c = run-replaced _ _ _ _ _ (omega arith) c.copy_from_slice.ensures.after
