-- `cell_numbers` meets its contract: the cells passed are written. Assumes nothing.
use Prim.Native.Nat.{◌+◌, ◌*◌}
use mathlib.Core.List.{[]}
use mathlib.Core.Path.{◌≡◌, refl, ◌∙◌}
use native.Mathlib.Omega.{arith}
use lib.ListN.{replicate}
use Rattle.lists.specs.Tables.{table_from, joined}
use Rattle.lists.proofs.RunLaws.{overwritten-none, overwritten-row, overwritten-all}
use Rattle.exports.specs.CellNumbers.{pair_at, numbers_of}
use Rattle.exports.proofs.plain_numbers.cell_numbers.Goals as goal

pub loop-i-init : goal.loop-i-init
unfolding table_from joined
loop-i-init c = overwritten-none _

pub loop-i-preserved : goal.loop-i-preserved
unfolding pair_at
loop-i-preserved c =
    let loop = c.loop-i in
    rw (c.write.ensures, c.pair_at.ensures)
    (overwritten-row [] (pair_at c.args.cells.now) 2 (λ i. refl) loop.i (2 * loop.i) (2 * (loop.i + 1)) (replicate 56 0) loop.numbers _ loop.invariant
    refl (omega arith) (omega arith))

pub returns : goal.returns
unfolding numbers_of
returns c =
    let e : c.loop-i.i ≡ 28 = omega arith in
    overwritten-all _ _ _ _ c.loop-i.invariant (omega arith) ∙ rw e
