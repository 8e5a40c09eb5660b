-- `cell_value` meets its contract: only a number from the first cell to the last has an index among the cells.
-- Assumes nothing.
use borrow.Author.Tests.{le-leb, lt-leb}
use Rattle.form.specs.Cells.{first_cell, last_cell}
use Rattle.filing_cells.specs.Balances.{cell_in}
use Rattle.filing_cells.proofs.column_sums.cells.cell_value.Goals as goal

pub returns-then-cell-lt-FIRST_CELL : goal.returns-then-cell-lt-FIRST_CELL
unfolding cell_in
returns-then-cell-lt-FIRST_CELL c = simp (lt-leb first_cell c.args.n c.if-cell-lt-FIRST_CELL.true)

pub returns-then-cell-gt-LAST_CELL : goal.returns-then-cell-gt-LAST_CELL
unfolding cell_in
returns-then-cell-gt-LAST_CELL c =
    let n = c.args.n in
    simp (le-leb first_cell n c.if-cell-lt-FIRST_CELL.false, lt-leb n last_cell c.if-cell-gt-LAST_CELL.true)

pub returns : goal.returns
unfolding cell_in
returns c =
    let n = c.args.n in
    simp (le-leb first_cell n c.if-cell-lt-FIRST_CELL.false, le-leb n last_cell c.if-cell-gt-LAST_CELL.false)
