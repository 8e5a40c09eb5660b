-- `write_scenario` meets its contract: the pairs of the terms passed are there. Assumes nothing.
use Prim.Native.Nat.{ℕ, ◌+◌, ◌*◌}
use mathlib.Core.Path.{◌≡◌}
use Rattle.forward_sheet.specs.Sheet.{pairs_before, scenario_pairs}
use Rattle.forward_sheet.specs.Inner.Runs.{Changed, Accumulated}
use Rattle.forward_sheet.proofs.SheetLaws.{Terms}
use Rattle.forward_sheet.proofs.sheet.write_scenario.Given as goal

abbrev pub invariant-loop-index : goal.invariant-loop-index
invariant-loop-index l =
    (l.at ≡ 2 * (scenario_pairs * l.fn.scenario.number) + 2 * pairs_before l.index)
    × Changed (2 * (scenario_pairs * l.fn.scenario.number)) l.at l.initial.list l.list
    × ((growth : ℕ → ℕ) → Accumulated growth l.figures → Terms growth (2 * (scenario_pairs * l.fn.scenario.number)) l.index l.list)
