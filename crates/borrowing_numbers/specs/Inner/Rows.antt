-- The borrowings as the code goes through them: the longest term, a borrowing's row by tables of discount factors, and the totals of a list's rows.
-- Definitions only.
use Rattle.std.specs.Prelude.{ℕ, zero, suc, ◌+◌, ◌*◌, ◌^◌, ◌≤◌, ◌<◌, max, cond, List, [], ◌∷◌, eqb, length, get_or}
use Rattle.lists.specs.Sums.{sum_where, everywhere}
use Rattle.form.specs.Borrowings.{borrowing_count}
use Rattle.form.specs.Counts.{place_number_count}
use Rattle.form.specs.Limits.{balance_limit, filed_coupon_limit, months_limit}
use Rattle.borrowing_prices.specs.Inner.Tabled.{tabled_values}
use Rattle.borrowing_numbers.specs.Borrowed.{balance_of, coupon_of, months_of}
use Rattle.borrowing_numbers.specs.Numbers.{borrowing_totals_start}

-- what every borrowing of an accepted filing has
pub record BorrowingLimits (cells : List ℕ) : Type 0 where
  pub balance-le : (i : ℕ) → i < borrowing_count → balance_of cells i ≤ balance_limit
  pub coupon-le : (i : ℕ) → i < borrowing_count → coupon_of cells i ≤ filed_coupon_limit
  pub months-le : (i : ℕ) → i < borrowing_count → months_of cells i ≤ months_limit

-- the months of a borrowing with a balance, 0 of one without; the longest among the first n
unfoldable pub term_at : List ℕ → ℕ → ℕ
term_at cells i = cond (eqb (balance_of cells i) 0) 0 (months_of cells i)

unfoldable pub longest_to : List ℕ → ℕ → ℕ
longest_to cells zero = 0
longest_to cells (suc n) = max (longest_to cells n) (term_at cells n)

-- the fifteen numbers of a borrowing by tables of discount factors
unfoldable pub row_with : List ℕ → List ℕ → List ℕ → ℕ → List ℕ
row_with cells lower upper i = balance_of cells i ∷ tabled_values (balance_of cells i) (coupon_of cells i) (months_of cells i) lower upper

-- no value is above this, dollars, so that the total of twenty-four fits 64 bits
abbrev pub value_limit : ℕ
value_limit = 5 * 10 ^ 12

-- the list has twenty-four rows of fifteen numbers, none above the limit of a value
pub record WithinRows (list : List ℕ) : Type 0 where
  pub long : borrowing_totals_start ≤ length list
  pub within : (i : ℕ) → i < borrowing_totals_start → get_or list i 0 ≤ value_limit

-- number r of a borrowing's fifteen, and the lower and the upper total of a scenario
unfoldable pub number_at : List ℕ → ℕ → ℕ → ℕ
number_at list r i = get_or list (place_number_count * i + r) 0

unfoldable pub row_totals : List ℕ → ℕ → List ℕ
row_totals list scenario =
    sum_where everywhere (number_at list (2 * scenario + 1)) borrowing_count ∷ sum_where everywhere (number_at list (2 * scenario + 2)) borrowing_count ∷ []
