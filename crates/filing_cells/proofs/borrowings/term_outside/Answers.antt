-- `term_outside` meets its contract. Assumes nothing.
use mathlib.Core.Path.{sym, ◌∙◌}
use Rattle.filing_cells.specs.BorrowingConditions.{term_outside}
use Rattle.filing_cells.proofs.borrowings.term_outside.Goals as goal

pub returns-then-term_borrowed : goal.returns-then-term_borrowed
unfolding term_outside
returns-then-term_borrowed c =
    rw (sym c.term_borrowed.ensures ∙ c.if-term_borrowed.true, c.within_term.ensures, c.cell_value-months.ensures, c.term_cell.ensures)

pub returns : goal.returns
unfolding term_outside
returns c = rw (sym c.term_borrowed.ensures ∙ c.if-term_borrowed.false)
