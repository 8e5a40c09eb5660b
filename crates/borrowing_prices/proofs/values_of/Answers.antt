-- `values_of` meets its contract: the scenarios passed are written. Assumes nothing.
use Prim.Native.Nat.{◌+◌, ◌*◌, ◌<◌}
use native.Mathlib.Omega.{arith}
use mathlib.Core.List.{[]}
use mathlib.Core.Path.{◌≡◌, refl, ◌∙◌}
use lib.ListN.{replicate}
use Rattle.lists.specs.Tables.{table_from, joined}
use Rattle.lists.proofs.RunLaws.{overwritten-none, overwritten-row, overwritten-all}
use Rattle.pricing.specs.Rounding.{rounding_of}
use Rattle.borrowing_prices.specs.Inner.Tabled.{bounds_with, tabled_values}
use Rattle.borrowing_prices.proofs.TabledLaws.{no-values}
use Rattle.borrowing_prices.proofs.values_of.Goals as goal

pub returns-then-balance-eq0 : goal.returns-then-balance-eq0
returns-then-balance-eq0 c = rw c.if-balance-eq0.true (no-values _ _ _ _)

pub loop-scenario-init : goal.loop-scenario-init
unfolding table_from joined
loop-scenario-init c = overwritten-none _

-- lower and upper value of the scenario are written behind those of the scenarios before, at twice its index
pub loop-scenario-preserved : goal.loop-scenario-preserved
unfolding bounds_with
loop-scenario-preserved c =
    let state = c.loop-scenario in
    let more : state.scenario < 7 = omega (arith, c.loop-scenario-test.true) in
    rw c.write.ensures (overwritten-row [] _ 2 (λ s. refl) state.scenario (2 * state.scenario) (2 * (state.scenario + 1)) (replicate 14 0) state.values
    c.bounds_in-two.result state.invariant c.bounds_in-two.ensures (omega (arith, more)) (omega (arith, more)))

pub returns : goal.returns
unfolding tabled_values rounding_of
returns c =
    let e : c.loop-scenario.scenario ≡ 7 = omega arith in
    overwritten-all _ _ _ _ c.loop-scenario.invariant (omega arith) ∙ rw (e, c.interest_of-2.ensures.0, c.interest_of.ensures.0)
