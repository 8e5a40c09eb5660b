-- `months_outside` meets its contract. Assumes nothing.
use mathlib.Core.Path.{sym, ap, ◌∙◌}
use mathlib.Core.Bool.{not}
use Rattle.form.specs.Cells.{within_row}
use Rattle.filing_cells.proofs.ConditionLaws.{outside-empty, outside-filled}
use Rattle.filing_cells.proofs.months_outside.Goals as goal

pub returns-then-cell_value-eq0 : goal.returns-then-cell_value-eq0
returns-then-cell_value-eq0 c =
    let a = c.args in
    sym (outside-empty a.cells.now a.p (sym c.cell_value.ensures ∙ c.if-cell_value-eq0.true))

pub returns : goal.returns
returns c =
    let a = c.args in
    ap not (c.within_row.ensures ∙ ap (within_row a.p.row) c.cell_value-months.ensures)
    ∙ sym (outside-filled a.cells.now a.p (λ e. c.if-cell_value-eq0.false (c.cell_value.ensures ∙ e)))
