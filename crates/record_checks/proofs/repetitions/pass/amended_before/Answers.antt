-- `amended_before` meets its contract. The loop's invariant: what is still to be searched gives the answer.
-- Assumes nothing.
use native.Mathlib.Nat.{le_refl}
use native.Mathlib.Omega.{arith}
use mathlib.Core.Path.{sym, ◌∙◌}
use borrow.Author.Tests.{lt-ltb, le-ltb}
use Rattle.record_kinds.specs.Items.{first_with}
use Rattle.record_fields.proofs.SearchLaws.{next-lt, ahead-start, ahead-here, ahead-next, ahead-done}
use Rattle.record_checks.proofs.repetitions.pass.amended_before.Goals as goal

pub loop-at-init : goal.loop-at-init
loop-at-init c = ahead-start _ _ _

pub returns-then-amends : goal.returns-then-amends
unfolding first_with
returns-then-amends c =
    let loop = c.loop-at in
    let l = c.loop-at-test.true in
    let is = ahead-here c.args.s.now _ c.args.end loop.at loop.invariant l (sym c.amends.ensures ∙ c.if-amends.true) in
    sym (rw is (lt-ltb loop.at c.args.end l))

pub next_of-at-requires : goal.next_of-at-requires
next_of-at-requires c = omega (arith, c.requires)

pub loop-at-smaller : goal.loop-at-smaller
loop-at-smaller c = omega (arith, next-lt c.args.s.now c.loop-at.at, c.next_of-at.ensures)

pub loop-at-preserved : goal.loop-at-preserved
loop-at-preserved c =
    let loop = c.loop-at in
    rw c.next_of-at.ensures
    (ahead-next c.args.s.now _ c.args.end loop.at loop.invariant c.loop-at-test.true (sym c.amends.ensures ∙ c.if-amends.false))

pub returns : goal.returns
unfolding first_with
returns c =
    let is = ahead-done c.args.s.now _ c.args.end c.loop-at.at c.loop-at.invariant c.loop-at-test.false in
    sym (rw is (le-ltb c.args.end c.args.end (le_refl c.args.end)))
