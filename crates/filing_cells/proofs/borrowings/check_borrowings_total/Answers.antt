-- `check_borrowings_total` meets its contract. Assumes nothing.
use mathlib.Core.Path.{ap, sym, ◌∙◌}
use mathlib.Core.Bool.{not}
use borrow.Author.Tests.{eq-eqb, ne_eqb}
use Rattle.form.specs.Borrowings.{borrowings_total_cell}
use Rattle.answers.specs.Verdict.{accepted, refused}
use Rattle.answers.proofs.VerdictLaws.{condition-holds, condition-passes}
use Rattle.filing_cells.specs.BorrowingConditions.{borrowings_differ}
use Rattle.filing_cells.specs.BorrowingVerdicts.{borrowings_verdict}
use Rattle.filing_cells.proofs.borrowings.check_borrowings_total.Goals as goal

pub returns-then-cell_value-borrowings_sum : goal.returns-then-cell_value-borrowings_sum
unfolding accepted borrowings_verdict borrowings_differ
returns-then-cell_value-borrowings_sum c =
    condition-passes _ 9 borrowings_total_cell
    (ap not (eq-eqb _ _ (sym c.cell_value.ensures ∙ c.if-cell_value-borrowings_sum.true ∙ c.borrowings_sum.ensures)))

pub returns-else-cell_value-borrowings_sum : goal.returns-else-cell_value-borrowings_sum
unfolding refused borrowings_verdict borrowings_differ
returns-else-cell_value-borrowings_sum c =
    condition-holds _ 9 borrowings_total_cell
    (ap not (ne_eqb _ _ (λ e. c.if-cell_value-borrowings_sum.false (c.cell_value.ensures ∙ e ∙ sym c.borrowings_sum.ensures))))
