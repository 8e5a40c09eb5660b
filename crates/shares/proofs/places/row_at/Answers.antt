-- `row_at` meets its contract. Assumes nothing.
use Prim.Native.Nat.{ℕ, ◌-◌, ◌≤◌, ◌<◌}
use mathlib.Core.Path.{◌≡◌, ap, ◌∙◌}
use native.Mathlib.Omega.{arith}
use lib.ListN.{get_or}
use Rattle.form.specs.declared.Position.{Position}
use Rattle.form.specs.Cells.{position_at, brokered_cell, penalty_balance_cell, penalty_months_cell}
use Rattle.filing_cells.specs.declared.column_sums.ColumnSums.{ColumnSums}
use Rattle.filing_cells.specs.Inner.Sums.{column_sum}
use Rattle.filing_cells.proofs.SumLaws.{column-range, totals-are, above_at_lem, sum-at}
use Rattle.shares.specs.Inner.Rows.{row_at}
use Rattle.shares.proofs.places.row_at.Goals as goal

-- the column of a position is 1, 2 or 3
column-in : (i : ℕ) → i < 9 → (p : Position) → p ≡ position_at i → (1 ≤ p.column) × (p.column ≤ 3)
column-in i l p e = rw e (column-range i l)

pub overflow_sub-column : goal.overflow_sub-column
overflow_sub-column c = omega (arith, column-in c.args.i c.requires.1 c.position-p.result c.position-p.ensures)

pub offset_bounds-sums-column : goal.offset_bounds-sums-column
offset_bounds-sums-column c = omega (arith, column-in c.args.i c.requires.1 c.position-p.result c.position-p.ensures)

pub bounds-sums-column : goal.bounds-sums-column
bounds-sums-column c = omega (arith, column-in c.args.i c.requires.1 c.position-p.result c.position-p.ensures)

pub overflow_add-p : goal.overflow_add-p
overflow_add-p c = omega (arith, column-in c.args.i c.requires.1 c.position-p.result c.position-p.ensures)

pub overflow_add-p-2 : goal.overflow_add-p-2
overflow_add-p-2 c = omega (arith, column-in c.args.i c.requires.1 c.position-p.result c.position-p.ensures)

pub overflow_add-p-3 : goal.overflow_add-p-3
overflow_add-p-3 c = omega (arith, column-in c.args.i c.requires.1 c.position-p.result c.position-p.ensures)

-- each number of the row is read from its own cell, or is a sum over the position's column
pub returns : goal.returns
unfolding row_at brokered_cell penalty_balance_cell penalty_months_cell
returns c =
    let column-is : c.position-p.result.column ≡ (position_at c.args.i).column = ap (λ (p : Position). p.column) c.position-p.ensures in
    let total-is : get_or c.args.sums.totals (c.position-p.result.column - 1) 0 ≡ column_sum c.args.cells.now (position_at c.args.i).column 9 = ap (λ (s : ColumnSums). get_or s.totals (c.position-p.result.column - 1) 0) c.requires.0
    ∙ rw totals-are (sum-at c.args.cells.now 9 c.args.i _ c.requires.1 column-is) in
    let above-is : get_or c.args.sums.above c.args.i 0 ≡ column_sum c.args.cells.now (position_at c.args.i).column c.args.i = ap (λ (s : ColumnSums). get_or s.above c.args.i 0) c.requires.0 ∙ above_at_lem c.args.cells.now c.args.i c.requires.1 in
    rw (
      total-is,
      above-is,
      c.cell_value.ensures,
      c.cell_value-2.ensures,
      c.cell_value-3.ensures,
      c.cell_value-4.ensures,
      c.cell_value-5.ensures,
      c.cell_value-6.ensures,
      c.position-p.ensures,
    )
