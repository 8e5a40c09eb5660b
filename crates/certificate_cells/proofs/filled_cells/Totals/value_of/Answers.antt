-- `value_of` meets its contract. Assumes nothing.
use Rattle.std.proofs.Common.{sym, ◌∙◌}
use Rattle.certificate_cells.specs.Means.{coupon_at, months_at, balance_at}
use Rattle.certificate_cells.proofs.ValueLaws.{months-left, value-total, value-none, value-empty, value-balance, value-coupon, value-months}
use Rattle.certificate_cells.proofs.filled_cells.Totals.value_of.Goals as goal

pub returns-then-cell-eq-TOTAL_CELL : goal.returns-then-cell-eq-TOTAL_CELL
returns-then-cell-eq-TOTAL_CELL c = rw (c.if-cell-eq-TOTAL_CELL.true, c.total.ensures) (sym (value-total c.args.self.now))

pub returns-in_err-i : goal.returns-in_err-i
returns-in_err-i c =
    c.from_residual.ensures ∙ sym (value-none c.args.self.now c.args.cell c.if-cell-eq-TOTAL_CELL.false c.requires.nine c.in_err-i.ensures)

pub returns-then-balance-eq0 : goal.returns-then-balance-eq0
returns-then-balance-eq0 c =
    let at = c.in_ok-i.ensures in
    sym (value-empty c.args.self.now c.args.cell c.in_ok-i.i c.if-cell-eq-TOTAL_CELL.false at.1.0 c.if-balance-eq0.true)

pub returns-then-cell-cells : goal.returns-then-cell-cells
returns-then-cell-cells c =
    let at = c.in_ok-i.ensures in
    let cells = c.position-cells.ensures in
    sym (value-balance c.args.self.now c.args.cell c.in_ok-i.i c.if-cell-eq-TOTAL_CELL.false at.1.0 at.0 c.if-balance-eq0.false (rw cells at c.if-cell-cells.true))

pub returns-then-cell-cells-2 : goal.returns-then-cell-cells-2
unfolding coupon_at balance_at
returns-then-cell-cells-2 c =
    let at = c.in_ok-i.ensures in
    let cells = c.position-cells.ensures in
    rw c.mean.ensures (sym (value-coupon c.args.self.now c.args.cell c.in_ok-i.i c.if-cell-eq-TOTAL_CELL.false at.1.0 at.0 c.if-balance-eq0.false (rw cells at c.if-cell-cells-2.true)))

pub returns-else-cell-cells-2 : goal.returns-else-cell-cells-2
unfolding months_at balance_at
returns-else-cell-cells-2 c =
    let at = c.in_ok-i.ensures in
    let cells = c.position-cells.ensures in
    rw c.mean-else-cell-cells-2.ensures
    (sym (value-months c.args.self.now c.args.cell c.in_ok-i.i c.if-cell-eq-TOTAL_CELL.false at.1.0 at.0 c.if-balance-eq0.false
    (months-left c.args.cell c.in_ok-i.i at.1.1 (rw cells at c.if-cell-cells.false) (rw cells at c.if-cell-cells-2.false))))
