-- `column_sums` meets its contract. The loop's invariant: the columns' sums are those over the positions passed, and the sums above those are filled in.
-- Assumes nothing.
use Prim.Native.Nat.{◌-◌, ◌≤◌}
use native.Mathlib.Omega.{arith}
use mathlib.Core.Path.{◌≡◌, refl, ap, ◌∙◌}
use Rattle.lists.specs.Sums.{sum_where}
use Rattle.lists.specs.Tables.{table_from}
use Rattle.lists.proofs.FillLaws.{fill_none, fill_more, fill-all}
use Rattle.form.specs.declared.Position.{Position}
use Rattle.form.specs.Cells.{position_at}
use Rattle.filing_cells.specs.Balances.{cell_in}
use Rattle.filing_cells.specs.Inner.Sums.{column_sum, column_sums}
use Rattle.filing_cells.proofs.SumLaws.{column-range, sums_before, above_at, sum-at, balance-added, sums-limit}
use Rattle.filing_cells.proofs.column_sums.sums.column_sums.Goals as goal

pub loop-i-init : goal.loop-i-init
unfolding sums_before column_sum table_from sum_where
loop-i-init c = (refl, fill_none _ 0 0 9)

pub overflow_sub-column : goal.overflow_sub-column
overflow_sub-column c =
    let column-is : c.position-p.result.column ≡ (position_at c.loop-i.i).column = ap (λ (p : Position). p.column) c.position-p.ensures in
    let in-range : (1 ≤ c.position-p.result.column) × (c.position-p.result.column ≤ 3) = rw column-is (column-range c.loop-i.i c.loop-i-test.true) in
    in-range.0

pub offset_bounds-totals-column : goal.offset_bounds-totals-column
offset_bounds-totals-column c =
    let column-is : c.position-p.result.column ≡ (position_at c.loop-i.i).column = ap (λ (p : Position). p.column) c.position-p.ensures in
    let in-range : (1 ≤ c.position-p.result.column) × (c.position-p.result.column ≤ 3) = rw column-is (column-range c.loop-i.i c.loop-i-test.true) in
    omega (arith, in-range)

pub bounds-totals-column : goal.bounds-totals-column
bounds-totals-column c =
    let column-is : c.position-p.result.column ≡ (position_at c.loop-i.i).column = ap (λ (p : Position). p.column) c.position-p.ensures in
    let in-range : (1 ≤ c.position-p.result.column) × (c.position-p.result.column ≤ 3) = rw column-is (column-range c.loop-i.i c.loop-i-test.true) in
    omega (arith, in-range)

pub offset_bounds-totals-column-in-loop-i : goal.offset_bounds-totals-column-in-loop-i
offset_bounds-totals-column-in-loop-i c =
    let column-is : c.position-p.result.column ≡ (position_at c.loop-i.i).column = ap (λ (p : Position). p.column) c.position-p.ensures in
    let in-range : (1 ≤ c.position-p.result.column) × (c.position-p.result.column ≤ 3) = rw column-is (column-range c.loop-i.i c.loop-i-test.true) in
    omega (arith, in-range)

pub bounds-totals-column-in-loop-i : goal.bounds-totals-column-in-loop-i
bounds-totals-column-in-loop-i c =
    let column-is : c.position-p.result.column ≡ (position_at c.loop-i.i).column = ap (λ (p : Position). p.column) c.position-p.ensures in
    let in-range : (1 ≤ c.position-p.result.column) × (c.position-p.result.column ≤ 3) = rw column-is (column-range c.loop-i.i c.loop-i-test.true) in
    omega (arith, in-range)

pub overflow_add-totals : goal.overflow_add-totals
overflow_add-totals c =
    let balance-is : c.cell_value.result ≡ cell_in c.args.cells.now (position_at c.loop-i.i).balance = c.cell_value.ensures
    ∙ ap (λ (p : Position). cell_in c.args.cells.now p.balance) c.position-p.ensures in
    let loop = c.loop-i in
    let within = c.requires loop.i c.loop-i-test.true in
    let limit = sums-limit c.args.cells.now c.requires loop.i (c.position-p.result.column - 1) (omega arith) in
    omega (arith, within, balance-is, rw (← loop.invariant.0) at limit)

pub bounds-totals-column-in-loop-i-2 : goal.bounds-totals-column-in-loop-i-2
bounds-totals-column-in-loop-i-2 c =
    let column-is : c.position-p.result.column ≡ (position_at c.loop-i.i).column = ap (λ (p : Position). p.column) c.position-p.ensures in
    let in-range : (1 ≤ c.position-p.result.column) × (c.position-p.result.column ≤ 3) = rw column-is (column-range c.loop-i.i c.loop-i-test.true) in
    omega (arith, in-range)

-- the balance of position i is added to its column's sum, and the sum before it is the one above the position
pub loop-i-preserved : goal.loop-i-preserved
loop-i-preserved c =
    let column-is : c.position-p.result.column ≡ (position_at c.loop-i.i).column = ap (λ (p : Position). p.column) c.position-p.ensures in
    let balance-is : c.cell_value.result ≡ cell_in c.args.cells.now (position_at c.loop-i.i).balance = c.cell_value.ensures
    ∙ ap (λ (p : Position). cell_in c.args.cells.now p.balance) c.position-p.ensures in
    let cells = c.args.cells.now in
    let loop = c.loop-i in
    let h = c.loop-i-test.true in
    let column = column-is in (
      rw (loop.invariant.0, balance-is) (balance-added cells loop.i _ h column),
      fill_more (above_at cells) 0 9 loop.i loop.above _ h (rw loop.invariant.0 (sum-at cells loop.i loop.i _ h column)) loop.invariant.1,
    )

pub returns : goal.returns
unfolding column_sums sums_before
returns c =
    let loop = c.loop-i in
    let e : loop.i ≡ 9 = omega arith in
    rw (rw e at loop.invariant.0, fill-all (above_at _) 0 9 loop.above (rw e at loop.invariant.1))
