-- `borrowings_sum` meets its contract. The loop's invariant: the sum of the first i balances, each within its limit. Assumes nothing.
use Prim.Native.Nat.{ℕ, ◌≤◌}
use native.Mathlib.Nat.{zero-add}
use native.Mathlib.Omega.{arith}
use mathlib.Core.Path.{◌≡◌, refl, sym, ap, ◌∙◌}
use mathlib.Core.List.{List}
use Rattle.lists.specs.Sums.{sum}
use Rattle.lists.specs.Tables.{table_from}
use Rattle.lists.proofs.SumLaws.{sum-table-suc}
use Rattle.form.specs.declared.borrowings.Borrowing.{Borrowing}
use Rattle.form.specs.Borrowings.{borrowing_at}
use Rattle.form.specs.Limits.{balance_limit}
use Rattle.filing_cells.specs.Balances.{cell_in}
use Rattle.filing_cells.specs.BorrowingConditions.{borrowings}
use Rattle.filing_cells.proofs.borrowings.borrowings_sum.Goals as goal

-- the i-th balance
abbrev balance_at : List ℕ → ℕ → ℕ
balance_at cells i = cell_in cells (borrowing_at i).balance

pub loop-i-init : goal.loop-i-init
unfolding sum table_from
loop-i-init c = (refl, omega arith)

pub overflow_add-total : goal.overflow_add-total
overflow_add-total c =
    let read : c.cell_value-total.result ≡ balance_at c.args.cells.now c.loop-i.i = c.cell_value-total.ensures
    ∙ ap (λ (b : Borrowing). cell_in c.args.cells.now b.balance) c.borrowing_at.ensures in
    let limit : c.cell_value-total.result ≤ balance_limit = rw read (c.requires c.loop-i.i (omega arith)) in
    omega (arith, limit)

-- the sum of i + 1 balances is that of the first i and the one added; each is at most the balance limit, so i + 1 are at most
-- i + 1 limits
pub loop-i-preserved : goal.loop-i-preserved
loop-i-preserved c =
    let read : c.cell_value-total.result ≡ balance_at c.args.cells.now c.loop-i.i = c.cell_value-total.ensures
    ∙ ap (λ (b : Borrowing). cell_in c.args.cells.now b.balance) c.borrowing_at.ensures in
    let limit : c.cell_value-total.result ≤ balance_limit = rw read (c.requires c.loop-i.i (omega arith)) in
    let i = c.loop-i.i in
    let cells = c.args.cells.now in
    let inv = c.loop-i.invariant in (
      rw (inv.0, read) (sym (rw zero-add at (sum-table-suc 0 i (balance_at cells)))),
      omega (arith, limit),
    )

pub returns : goal.returns
unfolding borrowings
returns c =
    let e : c.loop-i.i ≡ 24 = omega arith in
    rw e at c.loop-i.invariant.0
