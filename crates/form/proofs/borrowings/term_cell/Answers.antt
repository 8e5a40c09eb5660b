-- `term_cell` meets its contract. Assumes nothing.
use mathlib.Core.Path.{refl}
use Rattle.form.specs.Borrowings.{term_cell}
use Rattle.form.proofs.borrowings.term_cell.Goals as goal

pub returns : goal.returns
unfolding term_cell
returns c = refl
