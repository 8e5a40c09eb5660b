-- `write_scenario` meets its contract: the pairs of the terms passed are there. Assumes nothing.
use Prim.Native.Nat.{◌+◌, ◌*◌, ◌≤◌}
use mathlib.Core.Path.{◌≡◌, ap}
use native.Mathlib.Omega.{arith}
use Rattle.forward_sheet.specs.Sheet.{term_count, pairs_over, pairs_before, scenario_pairs, HoldsScenario}
use Rattle.forward_sheet.proofs.ChangeLaws.{changed-none, changed_then}
use Rattle.forward_sheet.proofs.SheetLaws.{before-suc, before-all, before-le, terms-none, terms-more}
use Rattle.forward_sheet.proofs.sheet.write_scenario.Goals as goal

pub loop-index-init : goal.loop-index-init
unfolding pairs_before
loop-index-init c = (
  omega arith,
  changed-none _ _ _,
  λ growth k. terms-none growth _ c.args.list.now,
)

pub write_term-at-requires : goal.write_term-at-requires
write_term-at-requires c =
    let room : c.loop-index.at + 2 * pairs_over c.loop-index.index ≤ 2 * (scenario_pairs * (c.args.scenario.number + 1)) = omega (arith, c.loop-index.invariant.0, before-le c.loop-index.index term_count (omega arith), before-all) in
    (c.figures_of-figures.ensures.1, omega (arith, room, c.requires.2, c.requires.3, c.loop-index.invariant.1.as_long))

pub loop-index-preserved : goal.loop-index-preserved
loop-index-preserved c =
    let inv = c.loop-index.invariant in
    let done = c.write_term-at.ensures in (
      omega (arith, done.0, inv.0, before-suc c.loop-index.index),
      rw done.0 (changed_then (omega (arith, inv.0)) (omega arith) inv.1 done.1),
      λ growth k. terms-more growth _ c.loop-index.index _ done.1 (omega (arith, inv.0)) (inv.2 growth k) (rw inv.0 at (done.2 growth k)),
    )

pub returns : goal.returns
unfolding HoldsScenario
returns c =
    let inv = c.loop-index.invariant in
    let last : c.loop-index.index ≡ term_count = omega arith in
    let e : c.loop-index.at ≡ 2 * (scenario_pairs * (c.args.scenario.number + 1)) = omega (arith, inv.0, before-all, ap pairs_before last) in (
      rw e at inv.1,
      rw last at (inv.2 _ c.figures_of-figures.ensures.0),
    )
