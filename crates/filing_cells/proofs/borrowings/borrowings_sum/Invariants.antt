-- `borrowings_sum` meets its contract. The loop's invariant: the sum of the first i balances, each within its limit. Assumes nothing.
use Prim.Native.Nat.{ℕ, ◌*◌, ◌≤◌}
use mathlib.Core.Path.{◌≡◌}
use mathlib.Core.List.{List}
use Rattle.lists.specs.Sums.{sum}
use Rattle.lists.specs.Tables.{table}
use Rattle.form.specs.Borrowings.{borrowing_at}
use Rattle.form.specs.Limits.{balance_limit}
use Rattle.filing_cells.specs.Balances.{cell_in}
use Rattle.filing_cells.proofs.borrowings.borrowings_sum.Given as goal

-- the i-th balance
abbrev balance_at : List ℕ → ℕ → ℕ
balance_at cells i = cell_in cells (borrowing_at i).balance

abbrev pub invariant-loop-i : goal.invariant-loop-i
invariant-loop-i l = (l.total ≡ sum (table l.i (balance_at l.cells))) × (l.total ≤ balance_limit * l.i)
