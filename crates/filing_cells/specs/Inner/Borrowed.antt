-- The borrowings' balances as the code reads them. Definitions only.
use Rattle.std.specs.Prelude.{ℕ, ◌+◌, ◌*◌, ◌≤◌, ◌<◌, Bool, List}
use Rattle.lists.specs.Tables.{any_below}
use Rattle.form.specs.Borrowings.{borrowing_count, borrowing_at}
use Rattle.form.specs.Limits.{balance_limit}
use Rattle.filing_cells.specs.Balances.{cell_in}
use Rattle.filing_cells.specs.BorrowingConditions.{filled}

-- each of the twenty-four balances is within its limit
abbrev pub BorrowingsWithin : List ℕ → Type 0
BorrowingsWithin cells = (i : ℕ) → i < borrowing_count → cell_in cells (borrowing_at i).balance ≤ balance_limit

-- one of the cells first, first + step, .., count of them, is not zero
unfoldable pub some_from : List ℕ → ℕ → ℕ → ℕ → Bool
some_from cells first step count = any_below (λ (i : ℕ). filled cells (first + step * i)) count
