-- What the valuing call promises, for any bytes and any two lists lent to it (01:26-41, 01:58-61, 01:88-93; 02:CR 8). Definitions only.
-- Read off the lists after the call: balances in thousands of dollars, values and totals in dollars.
use Rattle.std.specs.Prelude.{ℕ, ◌+◌, ◌*◌, ◌<◌, ◌≡◌, cond, List, ◌++◌, eqb, length, get_or, drop, Result}
use Rattle.lists.specs.Sums.{sum_where, everywhere}
use Rattle.form.specs.Cells.{position_at, total_cell}
use Rattle.answers.specs.declared.Refusal.{Refusal}
use Rattle.answers.specs.Answers.{verdict_of}
use Rattle.answers.specs.Verdict.{Verdict, accepted, first_refusal, list_verdict}
use Rattle.filing_decode.specs.Contents.{contents_of}
use Rattle.filing_contents.specs.Contents.{cell}
use Rattle.filing.specs.Verdict.{filing_verdict}
use Rattle.form.specs.PlaceOrder.{sub_balance_count, is_short, is_long}
use Rattle.form.specs.Counts.{place_number_count, totals_start, number_count}
use Rattle.pricing.specs.EnclosedValues.{EnclosedValues, EnclosedTotal}
use Rattle.valuation.specs.Exact.{exact_value_at}
use Rattle.value_numbers.specs.Numbers.{numbers}
use Rattle.borrowing_numbers.specs.Borrowed.{libor_rate}
use Rattle.borrowing_numbers.specs.Numbers.{borrowing_number_count, borrowed_numbers}
use Rattle.borrowing_numbers.specs.Promise.{EnclosedBorrowings}

-- the verdict on two lists and a filing: a list under 568 numbers is a 10 and comes first, then one under 374 for the borrowings
unfoldable pub verdict_on : List ℕ → List ℕ → List ℕ → Verdict
verdict_on s list borrowings =
    first_refusal (list_verdict number_count (length list)) (first_refusal (list_verdict borrowing_number_count (length borrowings)) (filing_verdict s))

-- the lists after the call: as they were on a refusal; else the 568 numbers, or the 374 of the borrowings, and then the rest as it was
unfoldable pub list_after : List ℕ → List ℕ → List ℕ → List ℕ
list_after s list borrowings =
    cond (eqb (verdict_on s list borrowings).number 0) (numbers (contents_of s) ++ drop number_count list) list

unfoldable pub borrowings_after : List ℕ → List ℕ → List ℕ → List ℕ
borrowings_after s list borrowings =
    cond (eqb (verdict_on s list borrowings).number 0) (borrowed_numbers (contents_of s) ++ drop borrowing_number_count borrowings) borrowings

-- the places of the 568: balance, lower and upper value of a place; of a scenario's four totals, short lower, short upper, long lower and long upper,
-- number r
unfoldable pub balance_in : List ℕ → ℕ → ℕ
balance_in list place = get_or list (place_number_count * place) 0

unfoldable pub lower_in : List ℕ → ℕ → ℕ → ℕ
lower_in list scenario place = get_or list (place_number_count * place + 2 * scenario + 1) 0

unfoldable pub upper_in : List ℕ → ℕ → ℕ → ℕ
upper_in list scenario place = get_or list (place_number_count * place + 2 * scenario + 2) 0

unfoldable pub total_number : List ℕ → ℕ → ℕ → ℕ
total_number list r scenario = get_or list (totals_start + 4 * scenario + r) 0

-- what holds of the list after an accepted filing
pub record Enclosed (s list : List ℕ) : Type 0 where
  -- the shares add up to each of the nine balances, and to cell 645
  pub shares-add-up : (i : ℕ) → i < 9
      → balance_in list (4 * i) + balance_in list (4 * i + 1) + balance_in list (4 * i + 2) + balance_in list (4 * i + 3)
      ≡ cell (contents_of s) (position_at i).balance
  pub shares-total : sum_where everywhere (balance_in list) sub_balance_count ≡ cell (contents_of s) total_cell
  -- lower never above and upper never below the exact value of the same bytes, the width of each, and the width over all thirty-six against cell 645
  pub values-enclosed :
      EnclosedValues sub_balance_count (balance_in list) (lower_in list) (upper_in list) (exact_value_at (contents_of s)) (cell (contents_of s) total_cell) 18000
  -- the short and the long total enclose theirs
  pub short-encloses : EnclosedTotal is_short sub_balance_count (exact_value_at (contents_of s)) (total_number list 0) (total_number list 1)
  pub long-encloses : EnclosedTotal is_long sub_balance_count (exact_value_at (contents_of s)) (total_number list 2) (total_number list 3)

-- the promise: s is the filing's bytes, list and borrowings are what is lent, and then what stands there at the return
pub record Valued {A : Type 0} (s list borrowings : List ℕ) (answer : Result A Refusal) (list-after borrowings-after : List ℕ) : Type 0 where
  pub answer-is : verdict_of answer ≡ verdict_on s list borrowings
  pub list-is : list-after ≡ list_after s list borrowings
  pub borrowings-are : borrowings-after ≡ borrowings_after s list borrowings
  pub enclosed : verdict_of answer ≡ accepted → Enclosed s list-after
  pub borrowings-enclosed : verdict_of answer ≡ accepted → EnclosedBorrowings (contents_of s).cells (libor_rate (contents_of s)) borrowings-after
