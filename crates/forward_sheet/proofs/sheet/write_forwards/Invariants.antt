-- `write_forwards` meets its contract: the pairs of the scenarios passed are there. Assumes nothing.
use Prim.Native.Nat.{◌*◌}
use Rattle.forward_sheet.specs.Sheet.{scenario_pairs}
use Rattle.forward_sheet.specs.Inner.Runs.{Changed, sheet_growth}
use Rattle.forward_sheet.proofs.SheetLaws.{Scenarios}
use Rattle.forward_sheet.proofs.sheet.write_forwards.Given as goal

abbrev pub invariant-loop-number : goal.invariant-loop-number
invariant-loop-number l =
    Changed 0 (2 * (scenario_pairs * l.number)) l.initial.list l.list × Scenarios (sheet_growth l.yields) l.number l.list
