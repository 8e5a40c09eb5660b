-- `cells::retail_cell` meets its contract. Assumes nothing.
use Rattle.intangible_numbers.specs.Inner.Limits.{retail_cell}
use Rattle.intangible_numbers.proofs.cells.retail_cell.Goals as goal

pub returns : goal.returns
unfolding retail_cell
returns c =
    rw (c.cell_value.ensures, c.cell_value-2.ensures, c.rollover_months.ensures, c.from.ensures)
