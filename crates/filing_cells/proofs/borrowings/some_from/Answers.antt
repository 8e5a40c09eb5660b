-- `some_from` meets its contract. The loop's invariant: the first i cells are zero. Assumes nothing.
use Prim.Native.Nat.{◌*◌, ◌≤◌, ◌<◌}
use native.Mathlib.Nat.{mul-le-mul_left, le_of_lt}
use native.Mathlib.Omega.{arith}
use mathlib.Core.Path.{◌≡◌, refl, sym}
use Rattle.lists.specs.Tables.{any_below}
use Rattle.lists.proofs.TestLaws.{any_none, any_here}
use Rattle.filing_cells.specs.Inner.Borrowed.{some_from}
use Rattle.filing_cells.proofs.BorrowingLaws.{filled-true, filled-false}
use Rattle.filing_cells.proofs.borrowings.some_from.Goals as goal

pub loop-i-init : goal.loop-i-init
unfolding some_from any_below
loop-i-init c = refl

pub overflow_mul-step : goal.overflow_mul-step
overflow_mul-step c =
    let products : c.loop-i.i < c.args.count → c.args.step * c.loop-i.i ≤ c.args.step * c.args.count = λ h. mul-le-mul_left c.args.step (le_of_lt h) in
    omega (arith, products c.loop-i-test.true)

pub overflow_add-first : goal.overflow_add-first
overflow_add-first c =
    let products : c.loop-i.i < c.args.count → c.args.step * c.loop-i.i ≤ c.args.step * c.args.count = λ h. mul-le-mul_left c.args.step (le_of_lt h) in
    omega (arith, products c.loop-i-test.true)

pub returns-then-cell_value-ne0 : goal.returns-then-cell_value-ne0
unfolding some_from
returns-then-cell_value-ne0 c =
    let loop = c.loop-i in
    sym (any_here _ _ loop.i c.loop-i-test.true (filled-true _ _ c.cell_value.ensures c.if-cell_value-ne0.true))

pub loop-i-preserved : goal.loop-i-preserved
unfolding some_from
loop-i-preserved c =
    let loop = c.loop-i in
    any_none _ loop.i loop.invariant (filled-false _ _ c.cell_value.ensures c.if-cell_value-ne0.false)

pub returns : goal.returns
returns c =
    let e : c.loop-i.i ≡ c.args.count = omega arith in
    rw (← e) (sym c.loop-i.invariant)
