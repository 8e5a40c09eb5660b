-- `check_total` meets its contract: three sums of at most nine balances each do not wrap.
-- Assumes nothing.
use Prim.Native.Nat.{ℕ, ◌+◌, ◌*◌, ◌≤◌}
use native.Mathlib.Omega.{arith}
use mathlib.Core.Path.{◌≡◌, ap, sym, ◌∙◌}
use mathlib.Core.Bool.{not}
use borrow.Author.Tests.{eq-eqb, ne_eqb}
use lib.ListN.{get_or}
use Rattle.form.specs.Cells.{total_cell}
use Rattle.form.specs.Limits.{balance_limit}
use Rattle.answers.specs.Verdict.{accepted, refused}
use Rattle.answers.proofs.VerdictLaws.{condition-holds, condition-passes}
use Rattle.filing_cells.specs.Balances.{cell_in, balances}
use Rattle.filing_cells.specs.Conditions.{total_differs}
use Rattle.filing_cells.specs.CellVerdicts.{total_verdict}
use Rattle.filing_cells.proofs.SumLaws.{totals-are, balances-sum, sums-limit}
use Rattle.lists.specs.Sums.{sum}
use Rattle.filing_cells.proofs.check_total.Goals as goal

pub overflow_add-totals : goal.overflow_add-totals
overflow_add-totals c =
    let limit : (m : ℕ) → get_or c.args.totals.now m 0 ≤ balance_limit * 9 = λ m. rw (c.requires.1, totals-are) (sums-limit c.args.cells.now c.requires.0 9 m (omega arith)) in
    omega (arith, limit 0, limit 1)

pub overflow_add-totals-2 : goal.overflow_add-totals-2
overflow_add-totals-2 c =
    let limit : (m : ℕ) → get_or c.args.totals.now m 0 ≤ balance_limit * 9 = λ m. rw (c.requires.1, totals-are) (sums-limit c.args.cells.now c.requires.0 9 m (omega arith)) in
    omega (arith, limit 0, limit 1, limit 2)

pub returns-then-cell_value-totals : goal.returns-then-cell_value-totals
unfolding accepted total_verdict total_differs
returns-then-cell_value-totals c =
    let whole : get_or c.args.totals.now 0 0 + get_or c.args.totals.now 1 0 + get_or c.args.totals.now 2 0 ≡ sum (balances c.args.cells.now) = rw (c.requires.1, totals-are) (balances-sum c.args.cells.now) in
    condition-passes _ 9 total_cell
    (ap not (eq-eqb (cell_in c.args.cells.now total_cell) _ (sym c.cell_value.ensures ∙ c.if-cell_value-totals.true ∙ whole)))

pub returns-else-cell_value-totals : goal.returns-else-cell_value-totals
unfolding refused total_verdict total_differs
returns-else-cell_value-totals c =
    let whole : get_or c.args.totals.now 0 0 + get_or c.args.totals.now 1 0 + get_or c.args.totals.now 2 0 ≡ sum (balances c.args.cells.now) = rw (c.requires.1, totals-are) (balances-sum c.args.cells.now) in
    condition-holds _ 9 total_cell
    (ap not
    (ne_eqb (cell_in c.args.cells.now total_cell) _
    (λ e. c.if-cell_value-totals.false (c.cell_value.ensures ∙ e ∙ sym whole))))
