-- `check_columns` meets its contract. The loop's invariant: the first i cells pass, and the rest of them gives the verdict.
-- Assumes nothing.
use Prim.Native.Nat.{◌+◌, ◌%◌}
use native.Mathlib.Omega.{arith}
use mathlib.Core.Path.{◌≡◌, sym, ◌∙◌}
use mathlib.Core.Bool.{true}
use borrow.Author.Tests.{lt-ltb, le-ltb}
use lib.Dec.{ltb}
use lib.ListN.{get_or}
use Rattle.form.specs.Cells.{first_column_cell}
use Rattle.answers.specs.Verdict.{accepted, refused}
use Rattle.answers.proofs.VerdictLaws.{tried-start, tried_here, tried-next, tried-all, condition-holds, condition-refuses, condition-none}
use Rattle.filing_cells.specs.Conditions.{above_column}
use Rattle.filing_cells.specs.CellVerdicts.{column_verdict}
use Rattle.filing_cells.proofs.SumLaws.{totals-are}
use Rattle.filing_cells.proofs.ConditionLaws.{above-sum, columns_at, columns-in-turn}
use Rattle.filing_cells.proofs.check_columns.Goals as goal

pub loop-i-init : goal.loop-i-init
loop-i-init c = tried-start _ 6

-- 8 holds at the i-th of the six and at none before: that is the verdict
pub returns-then-totals-column : goal.returns-then-totals-column
unfolding refused column_verdict
returns-then-totals-column c =
    let tested : ltb (get_or c.args.totals.now (c.loop-i.i % 3) 0) c.cell_value.result
    ≡ above_column c.args.cells.now (c.loop-i.i % 3 + 1) (c.loop-i.i + first_column_cell) = let i = c.loop-i.i in
    rw (c.requires, totals-are, c.cell_value.ensures)
    (above-sum c.args.cells.now (i % 3) (i + first_column_cell) (omega arith)) in
    let cells = c.args.cells.now in
    let loop = c.loop-i in
    let i = loop.i in
    let above : above_column cells (i % 3 + 1) (i + first_column_cell) ≡ true = sym tested ∙ lt-ltb _ _ c.if-totals-column.true in
    condition-holds (above_column cells (i % 3 + 1) (i + first_column_cell)) 8 (i + first_column_cell) above
    ∙ tried_here (columns_at cells) 6 i loop.invariant c.loop-i-test.true
    (condition-refuses (above_column cells (i % 3 + 1) (i + first_column_cell)) 7 (i + first_column_cell) above)
    ∙ sym (columns-in-turn cells)

pub loop-i-preserved : goal.loop-i-preserved
unfolding column_verdict
loop-i-preserved c =
    let tested : ltb (get_or c.args.totals.now (c.loop-i.i % 3) 0) c.cell_value.result
    ≡ above_column c.args.cells.now (c.loop-i.i % 3 + 1) (c.loop-i.i + first_column_cell) = let i = c.loop-i.i in
    rw (c.requires, totals-are, c.cell_value.ensures)
    (above-sum c.args.cells.now (i % 3) (i + first_column_cell) (omega arith)) in
    let loop = c.loop-i in
    tried-next (columns_at c.args.cells.now) 6 loop.i loop.invariant c.loop-i-test.true
    (condition-none _ 8 (loop.i + first_column_cell) (sym tested ∙ le-ltb _ _ c.if-totals-column.false))

pub returns : goal.returns
unfolding accepted
returns c =
    tried-all _ 6 c.loop-i.i c.loop-i.invariant c.loop-i-test.false ∙ sym (columns-in-turn c.args.cells.now)
