-- What holds of the borrowings among the cells of every accepted filing (02:CR 8): each limit, and conditions 19, 7 and 9. Definitions only.
use Rattle.std.specs.Prelude.{ℕ, ◌≤◌, ◌<◌, ◌≡◌, true, List}
use Rattle.lists.specs.Sums.{sum}
use Rattle.form.specs.Borrowings.{borrowing_count, borrowing_at, borrowings_total_cell, within_class, within_term}
use Rattle.form.specs.Limits.{balance_limit, filed_coupon_limit, months_limit}
use Rattle.filing_cells.specs.Balances.{cell_in}
use Rattle.filing_cells.specs.BorrowingConditions.{borrowings}

-- i: one of the twenty-four borrowings, 0 to 23. Balances in thousands of dollars, coupons in hundredths of a percent a year
pub record ValidBorrowings (cells : List ℕ) : Type 0 where
  pub balance-limit : (i : ℕ) → i < borrowing_count → cell_in cells (borrowing_at i).balance ≤ balance_limit
  pub coupon-limit : (i : ℕ) → i < borrowing_count → cell_in cells (borrowing_at i).coupon ≤ filed_coupon_limit
  pub months-limit : (i : ℕ) → i < borrowing_count → cell_in cells (borrowing_at i).months ≤ months_limit
  pub coupon-in-class : (i : ℕ) → i < borrowing_count → 0 < cell_in cells (borrowing_at i).balance
      → within_class (borrowing_at i).class (cell_in cells (borrowing_at i).coupon) ≡ true
  pub months-in-term : (i : ℕ) → i < borrowing_count → 0 < cell_in cells (borrowing_at i).balance
      → within_term (borrowing_at i).term (cell_in cells (borrowing_at i).months) ≡ true
  pub total-is-sum : cell_in cells borrowings_total_cell ≡ sum (borrowings cells)
