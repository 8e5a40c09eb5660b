-- What holds of a list that begins with the 374 numbers of a filing's borrowings (02:CR 8). Definitions only.
-- Balances in thousands of dollars, values and totals in dollars. z scenario month is the shifted LIBOR yield of a month.
use Rattle.std.specs.Prelude.{ℕ, ◌+◌, ◌*◌, ◌<◌, ◌≡◌, List, get_or}
use Rattle.lists.specs.Sums.{everywhere}
use Rattle.form.specs.Borrowings.{borrowing_count, borrowings_total_cell}
use Rattle.form.specs.Counts.{place_number_count}
use Rattle.filing_cells.specs.Balances.{cell_in}
use Rattle.pricing.specs.EnclosedValues.{EnclosedValues, EnclosedTotal}
use Rattle.borrowing_numbers.specs.Borrowed.{balance_of, exact_borrowed}
use Rattle.borrowing_numbers.specs.Numbers.{borrowing_totals_start}

-- read off the list: balance, lower and upper value of a borrowing; of a scenario's two totals, lower and upper, number r
unfoldable pub balance_in : List ℕ → ℕ → ℕ
balance_in list i = get_or list (place_number_count * i) 0

unfoldable pub lower_in : List ℕ → ℕ → ℕ → ℕ
lower_in list scenario i = get_or list (place_number_count * i + 2 * scenario + 1) 0

unfoldable pub upper_in : List ℕ → ℕ → ℕ → ℕ
upper_in list scenario i = get_or list (place_number_count * i + 2 * scenario + 2) 0

unfoldable pub total_number : List ℕ → ℕ → ℕ → ℕ
total_number list r scenario = get_or list (borrowing_totals_start + 2 * scenario + r) 0

-- what holds of the list
pub record EnclosedBorrowings (cells : List ℕ) (z : ℕ → ℕ → ℕ) (list : List ℕ) : Type 0 where
  -- the balances are those filed
  pub balances-are : (i : ℕ) → i < borrowing_count → balance_in list i ≡ balance_of cells i
  -- lower never above and upper never below the exact value, the width of each, and the width over all twenty-four against cell 715
  pub values-enclosed :
      EnclosedValues borrowing_count (balance_in list) (lower_in list) (upper_in list) (exact_borrowed cells z) (cell_in cells borrowings_total_cell) 12000
  -- the totals enclose theirs
  pub totals-enclose : EnclosedTotal everywhere borrowing_count (exact_borrowed cells z) (total_number list 0) (total_number list 1)
