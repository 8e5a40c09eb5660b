-- `coupon_outside` meets its contract. Assumes nothing.
use mathlib.Core.Path.{sym, ◌∙◌}
use Rattle.filing_cells.specs.BorrowingConditions.{coupon_outside}
use Rattle.filing_cells.proofs.borrowings.coupon_outside.Goals as goal

pub returns-then-class_borrowed : goal.returns-then-class_borrowed
unfolding coupon_outside
returns-then-class_borrowed c =
    rw (sym c.class_borrowed.ensures ∙ c.if-class_borrowed.true, c.within_class.ensures, c.cell_value-coupon.ensures, c.coupon_cell.ensures)

pub returns : goal.returns
unfolding coupon_outside
returns c = rw (sym c.class_borrowed.ensures ∙ c.if-class_borrowed.false)
