-- `cells::intangible_of` meets its contract: the scenarios passed are written. Assumes nothing.
use Prim.Native.Nat.{◌+◌, ◌*◌, ◌<◌}
use mathlib.Core.Path.{◌≡◌, refl, ◌∙◌}
use mathlib.Core.List.{[]}
use native.Mathlib.Omega.{arith}
use lib.IntN.{pos}
use lib.ListN.{replicate}
use Rattle.lists.specs.Tables.{table_from, joined}
use Rattle.lists.proofs.RunLaws.{overwritten-none, overwritten-row, overwritten-all}
use Rattle.form.specs.Counts.{place_value_count}
use Rattle.form.specs.Shift.{scenario_count}
use Rattle.intangible_cells.specs.Inner.Filed.{intangible_by}
use Rattle.intangible_numbers.specs.Inner.Limits.{lent_numbers}
use Rattle.intangible_numbers.proofs.CellLaws.{cell-walkable}
use Rattle.intangible_numbers.proofs.cells.intangible_of.Goals as goal

pub loop-scenario-init : goal.loop-scenario-init
unfolding table_from joined
loop-scenario-init c = overwritten-none _

pub intangible_in-two-requires : goal.intangible_in-two-requires
intangible_in-two-requires c =
    let p = c.requires in
    cell-walkable _ _ _ _ p.0 p.1 p.2 c.loop-scenario-test.true _ _ p.3 p.4

pub loop-scenario-preserved : goal.loop-scenario-preserved
unfolding intangible_by
loop-scenario-preserved c =
    let state = c.loop-scenario in
    let more : state.scenario < scenario_count = omega (arith, c.loop-scenario-test.true) in
    rw c.write_signed.ensures (overwritten-row [] _ 2 (λ s. refl) state.scenario (2 * state.scenario) (2 * (state.scenario + 1)) (replicate place_value_count (pos 0))
    state.numbers c.intangible_in-two.result state.invariant c.intangible_in-two.ensures (omega (arith, more)) (omega (arith, more)))

pub returns : goal.returns
unfolding lent_numbers
returns c =
    let e : c.loop-scenario.scenario ≡ scenario_count = omega arith in
    overwritten-all _ _ _ _ c.loop-scenario.invariant (omega arith) ∙ rw e
