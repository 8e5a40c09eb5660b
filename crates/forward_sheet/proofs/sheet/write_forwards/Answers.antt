-- `write_forwards` meets its contract: the pairs of the scenarios passed are there. Assumes nothing.
use mathlib.Core.Path.{◌≡◌}
use native.Mathlib.Omega.{arith}
use Rattle.form.specs.Shift.{scenario_count}
use Rattle.filing_contents.specs.Contents.{yields_in}
use Rattle.forward_sheet.specs.Inner.Runs.{sheet_growth}
use Rattle.forward_sheet.proofs.ChangeLaws.{changed_then}
use Rattle.forward_sheet.proofs.SheetLaws.{scenarios-more}
use Rattle.forward_sheet.proofs.sheet.write_forwards.Goals as goal

pub write_scenario-requires : goal.write_scenario-requires
unfolding yields_in
write_scenario-requires c =
    (c.requires.0, omega arith, omega arith, omega (arith, c.requires.1, c.loop-number.invariant.0.as_long))

pub loop-number-preserved : goal.loop-number-preserved
loop-number-preserved c =
    let inv = c.loop-number.invariant in
    let done = rw c.new.ensures at c.write_scenario.ensures in (
      changed_then (omega arith) (omega arith) inv.0 done.0,
      scenarios-more (sheet_growth _) c.loop-number.number _ done.0 inv.1 done.1,
    )

pub returns : goal.returns
unfolding yields_in
returns c =
    let inv = c.loop-number.invariant in
    let e : c.loop-number.number ≡ scenario_count = omega arith in
    (rw e at inv.0, rw e at inv.1)
