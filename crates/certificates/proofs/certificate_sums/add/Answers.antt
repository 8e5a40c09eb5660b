-- `add` meets its contract. Assumes nothing.
use mathlib.Core.Path.{refl}
use Rattle.certificates.specs.Inner.Totals.{added_at, totals_with}
use Rattle.certificates.proofs.certificate_sums.add.Goals as goal

pub returns : goal.returns
unfolding totals_with added_at
returns c = refl
