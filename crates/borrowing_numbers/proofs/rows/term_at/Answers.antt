-- `term_at` meets its contract. Assumes nothing.
use mathlib.Core.Path.{◌≡◌, sym, ◌∙◌}
use Rattle.borrowing_numbers.specs.Borrowed.{balance_of, months_of}
use Rattle.borrowing_numbers.proofs.RowLaws.{term-none, term-some}
use Rattle.borrowing_numbers.proofs.rows.term_at.Goals as goal

pub returns-then-cell_value-eq0 : goal.returns-then-cell_value-eq0
unfolding balance_of
returns-then-cell_value-eq0 c =
    let tested : c.cell_value.result ≡ balance_of c.args.cells.now c.args.i = rw (← c.borrowing_at-b.ensures) c.cell_value.ensures in
    term-none _ _ (sym tested ∙ c.if-cell_value-eq0.true)

pub returns-else-cell_value-eq0 : goal.returns-else-cell_value-eq0
unfolding balance_of months_of
returns-else-cell_value-eq0 c =
    let tested : c.cell_value.result ≡ balance_of c.args.cells.now c.args.i = rw (← c.borrowing_at-b.ensures) c.cell_value.ensures in
    rw (← c.borrowing_at-b.ensures) c.cell_value-else-cell_value-eq0.ensures ∙ term-some _ _ (λ e. c.if-cell_value-eq0.false (tested ∙ e))
