-- `borrowing_of` meets its contract. Assumes nothing.
use Rattle.form.specs.Borrowings.{borrowing}
use Rattle.form.proofs.borrowings.borrowing_of.Goals as goal

pub returns : goal.returns
unfolding borrowing
returns c = rw (c.coupon_cell.ensures, c.term_cell.ensures)
