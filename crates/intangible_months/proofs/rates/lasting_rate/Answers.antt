-- `rates::lasting_rate` meets its contract. Assumes nothing.
use Rattle.form.specs.Shift.{path_rate}
use Rattle.intangible_months.proofs.rates.lasting_rate.Goals as goal

pub returns : goal.returns
unfolding path_rate
returns c = (rw c.min-last.ensures, c.requires.0.within _)
