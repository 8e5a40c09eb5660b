-- `scan` meets its contract. The loop's invariant: the records before `at` are sound, and noted.
-- Assumes nothing.
use native.Mathlib.Omega.{arith}
use mathlib.Core.Path.{sym, subst, ◌∙◌}
use Rattle.record_fields.proofs.SearchLaws.{next-lt}
use Rattle.record_checks.proofs.ProgressLaws.{Scanning, scanning-start, scanning-done, visited-ends, visited-next}
use Rattle.record_checks.proofs.scan.scan.Goals as goal

pub loop-at-init : goal.loop-at-init
loop-at-init c = scanning-start _

pub visit-requires : goal.visit-requires
visit-requires c =
    (c.loop-at-test.true, c.loop-at.invariant.noted-is)

pub returns-then-is_err : goal.returns-then-is_err
returns-then-is_err c =
    let end = visited-ends _ _ _ c.loop-at.invariant c.loop-at-test.true _ _ c.visit.ensures (sym c.is_err.ensures.value ∙ c.if-is_err.true) in
    (end.noted-is, end.end_is)

pub loop-at-smaller : goal.loop-at-smaller
loop-at-smaller c =
    omega (arith, next-lt c.args.s.now c.loop-at.at, c.next_of-at.ensures, c.loop-at-test.true)

pub loop-at-preserved : goal.loop-at-preserved
loop-at-preserved c =
    subst (Scanning _ _) (sym c.next_of-at.ensures)
    (visited-next _ _ _ c.loop-at.invariant c.loop-at-test.true _ _ c.visit.ensures (sym c.is_err.ensures.value ∙ c.if-is_err.false))

pub returns : goal.returns
returns c =
    let end = scanning-done _ _ _ c.loop-at.invariant c.loop-at-test.false in
    (end.noted-is, end.end_is)
