-- `borrowing_at` meets its contract. Assumes nothing.
use Rattle.form.specs.Borrowings.{borrowing_at}
use Rattle.form.proofs.borrowings.borrowing_at.Goals as goal

pub returns : goal.returns
unfolding borrowing_at
returns c = c.borrowing_of.ensures
