-- `value_places::totals::scenario_totals` meets its contract. Assumes nothing.
use Rattle.value_places.specs.RowTotals.{row_totals}
use Rattle.value_places.proofs.totals.scenario_totals.Goals as goal

pub returns : goal.returns
unfolding row_totals
returns c = simp (c.total.ensures, c.total-2.ensures, c.total-3.ensures, c.total-4.ensures)
