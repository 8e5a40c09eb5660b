-- `value_places::totals::totals_of` meets its contract: the scenarios passed are written. Assumes nothing.
use Prim.Native.Nat.{◌*◌}
use lib.ListN.{replicate}
use Rattle.lists.specs.Tables.{table, joined}
use Rattle.lists.proofs.RunLaws.{Overwritten}
use Rattle.form.specs.Counts.{total_count}
use Rattle.value_places.specs.RowTotals.{row_totals}
use Rattle.value_places.proofs.totals.totals_of.Given as goal

abbrev pub invariant-loop-scenario : goal.invariant-loop-scenario
invariant-loop-scenario l = Overwritten (joined (table l.scenario (row_totals l.list))) (4 * l.scenario) (replicate total_count 0) l.totals
