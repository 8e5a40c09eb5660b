-- `value_places::totals::totals_of` meets its contract: the scenarios passed are written. Assumes nothing.
use Prim.Native.Nat.{◌+◌, ◌*◌}
use mathlib.Core.List.{[]}
use mathlib.Core.Path.{◌≡◌, ◌∙◌}
use native.Mathlib.Omega.{arith}
use lib.ListN.{replicate}
use Rattle.lists.specs.Tables.{table_from, joined}
use Rattle.lists.proofs.RunLaws.{overwritten-none, overwritten-row, overwritten-all}
use Rattle.form.specs.Shift.{scenario_count}
use Rattle.form.specs.Counts.{total_count}
use Rattle.value_places.specs.RowTotals.{row_totals}
use Rattle.value_places.proofs.TotalLaws.{row_totals-length}
use Rattle.value_places.proofs.totals.totals_of.Goals as goal

pub loop-scenario-init : goal.loop-scenario-init
unfolding table_from joined
loop-scenario-init c = overwritten-none _

pub scenario_totals-four-requires : goal.scenario_totals-four-requires
scenario_totals-four-requires c = (c.requires, omega arith)

-- the four totals of one scenario more are written
pub loop-scenario-preserved : goal.loop-scenario-preserved
loop-scenario-preserved c =
    let state = c.loop-scenario in
    rw c.write.ensures (overwritten-row [] (row_totals c.args.list.now) 4 (row_totals-length _) state.scenario
    (4 * state.scenario) (4 * (state.scenario + 1)) (replicate total_count 0) state.totals c.scenario_totals-four.result state.invariant
    c.scenario_totals-four.ensures (omega arith) (omega arith))

pub returns : goal.returns
returns c =
    let e : c.loop-scenario.scenario ≡ scenario_count = omega arith in
    overwritten-all _ _ _ _ c.loop-scenario.invariant (omega arith) ∙ rw e
