-- `write_term` meets its contract: the pairs of the months passed are there. Assumes nothing.
use Prim.Native.Nat.{◌+◌, ◌*◌, ◌<◌}
use mathlib.Core.Path.{◌≡◌, refl}
use native.Mathlib.Omega.{arith}
use lib.ListN.{length}
use Rattle.forward_sheet.specs.Sheet.{pairs_over}
use Rattle.forward_sheet.proofs.ChangeLaws.{changed-more}
use Rattle.forward_sheet.proofs.FigureLaws.{figured}
use Rattle.forward_sheet.proofs.PairLaws.{over-is, pairs-more, pairs-all}
use Rattle.forward_sheet.proofs.sheet.pairs.write_term.Goals as goal

pub overflow_sub-pairs : goal.overflow_sub-pairs
overflow_sub-pairs c = omega (arith, over-is c.args.index, c.term_at-term.ensures)

pub write_pair-requires : goal.write_pair-requires
write_pair-requires c = (
  c.forward-pair.ensures.limited.0,
  c.forward-pair.ensures.limited.1,
  omega (arith, c.requires.1, c.loop-month.invariant.0.as_long, over-is c.args.index, c.term_at-term.ensures),
)

pub loop-month-preserved : goal.loop-month-preserved
loop-month-preserved c =
    let fits : c.args.at + 2 * c.loop-month.month + 1 < length c.loop-month.list
    = omega (arith, c.requires.1, c.loop-month.invariant.0.as_long, over-is c.args.index, c.term_at-term.ensures) in (
      rw c.write_pair.ensures (changed-more c.loop-month.month _ _ c.loop-month.invariant.0 fits),
      λ growth k. rw c.write_pair.ensures
          (pairs-more growth c.args.index c.args.at c.loop-month.month c.forward-pair.result.lower c.forward-pair.result.upper c.loop-month.list fits
          (c.forward-pair.ensures.encloses _ refl (rw c.term_at-term.ensures (figured k c.args.index c.loop-month.month (omega (arith, c.term_at-term.ensures))))) (c.loop-month.invariant.1 growth k)),
    )

pub returns : goal.returns
returns c =
    let e : c.loop-month.month ≡ pairs_over c.args.index = omega (arith, over-is c.args.index, c.term_at-term.ensures) in (
      omega (arith, over-is c.args.index, c.term_at-term.ensures),
      rw e at c.loop-month.invariant.0,
      λ growth k. pairs-all growth c.args.index c.args.at c.loop-month.list (omega (arith, e)) (c.loop-month.invariant.1 growth k),
    )
