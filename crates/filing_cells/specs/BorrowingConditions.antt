-- What can be wrong with the borrowings among the cells of a filing: refusals 18, 19, 7 and 9 (02:CR 8). Definitions only.
use Rattle.std.specs.Prelude.{ℕ, Bool, not, ◌&&◌, List, eqb}
use Rattle.lists.specs.Sums.{sum}
use Rattle.lists.specs.Tables.{table, any_below}
use Rattle.form.specs.Borrowings.{coupon_classes, borrowing_terms, borrowing_count, coupon_cell, term_cell, borrowing, borrowing_at, borrowings_total_cell, within_class, within_term}
use Rattle.filing_cells.specs.Balances.{cell_in}

-- the value of a cell is not zero
unfoldable pub filled : List ℕ → ℕ → Bool
filled cells n = not (eqb (cell_in cells n) 0)

-- one of the three balances of a class, of the eight of a term, and of all twenty-four is not zero
unfoldable pub class_borrowed : List ℕ → ℕ → Bool
class_borrowed cells class = any_below (λ (term : ℕ). filled cells (borrowing class term).balance) borrowing_terms

unfoldable pub term_borrowed : List ℕ → ℕ → Bool
term_borrowed cells term = any_below (λ (class : ℕ). filled cells (borrowing class term).balance) coupon_classes

unfoldable pub some_borrowed : List ℕ → Bool
some_borrowed cells = any_below (λ (i : ℕ). filled cells (borrowing_at i).balance) borrowing_count

-- 19: a class with a balance that is not zero, and a coupon (WAC) outside it
unfoldable pub coupon_outside : List ℕ → ℕ → Bool
coupon_outside cells class = class_borrowed cells class && not (within_class class (cell_in cells (coupon_cell class)))

-- 7: a term with a balance that is not zero, and remaining months (WARM) outside it
unfoldable pub term_outside : List ℕ → ℕ → Bool
term_outside cells term = term_borrowed cells term && not (within_term term (cell_in cells (term_cell term)))

-- the twenty-four balances, by ascending cell, thousands of dollars
unfoldable pub borrowings : List ℕ → List ℕ
borrowings cells = table borrowing_count (λ (i : ℕ). cell_in cells (borrowing_at i).balance)

-- 9: cell 715 differs from the sum of the twenty-four balances
unfoldable pub borrowings_differ : List ℕ → Bool
borrowings_differ cells = not (eqb (cell_in cells borrowings_total_cell) (sum (borrowings cells)))
