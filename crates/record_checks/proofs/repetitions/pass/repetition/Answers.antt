-- `repetition` meets its contract. The loop's invariant: the set has the cells and numbers of the block's amendments so far, and what is still to be searched
-- gives the answer.
-- Assumes nothing.
use native.Mathlib.Omega.{arith}
use mathlib.Core.Path.{sym, ◌∙◌}
use Rattle.record_fields.proofs.SearchLaws.{here, next-lt, reached-next, ahead-start, ahead-here, ahead-next, ahead-done}
use Rattle.record_checks.proofs.MetLaws.{met_start, met_next, again-is}
use Rattle.record_checks.proofs.repetitions.pass.repetition.Goals as goal

pub loop-at-init : goal.loop-at-init
loop-at-init c = (here, ahead-start _ _ _, met_start _ _)

pub returns-then-meets : goal.returns-then-meets
returns-then-meets c =
    let loop = c.loop-at in
    let s = c.args.s.now in
    sym (ahead-here s _ c.args.end loop.at loop.invariant.1 c.loop-at-test.true
    (sym (c.meets.ensures.0 ∙ again-is s c.args.block loop.at loop.met loop.invariant.2 c.type_inv.s) ∙ c.if-meets.true))

pub next_of-at-requires : goal.next_of-at-requires
next_of-at-requires c = omega (arith, c.requires)

pub loop-at-smaller : goal.loop-at-smaller
loop-at-smaller c = omega (arith, next-lt c.args.s.now c.loop-at.at, c.next_of-at.ensures)

-- the record at `at` is not met again, so that the search goes on behind it; the set has its amendment too, and the next record is reached
pub loop-at-preserved : goal.loop-at-preserved
loop-at-preserved c =
    let loop = c.loop-at in
    let s = c.args.s.now in
    let met = loop.invariant.2 in
    let bytes = c.type_inv.s in
    rw (c.next_of-at.ensures, c.meets.ensures.1) (
      reached-next s loop.invariant.0,
      ahead-next s _ c.args.end loop.at loop.invariant.1 c.loop-at-test.true
          (sym (c.meets.ensures.0 ∙ again-is s c.args.block loop.at loop.met met bytes) ∙ c.if-meets.false),
      met_next s c.args.block loop.at loop.met met bytes loop.invariant.0,
    )

pub returns : goal.returns
returns c =
    sym (ahead-done c.args.s.now _ c.args.end c.loop-at.at c.loop-at.invariant.1 c.loop-at-test.false)
