-- The totals that are taken from the rows of the borrowings are those of the definitions, and the 374 numbers stand in the list. Assumes nothing.
use Prim.Native.Nat.{ℕ, ◌≤◌, ◌<◌}
use mathlib.Core.Path.{◌≡◌, refl, ap, ◌∙◌}
use mathlib.Core.List.{List, ◌++◌}
use native.Mathlib.Omega.{arith}
use lib.ListN.{length, drop, get_or-append}
use Rattle.lists.specs.Runs.{written}
use Rattle.lists.specs.Sums.{everywhere}
use Rattle.lists.specs.Tables.{table, joined}
use Rattle.lists.proofs.RunLaws.{Overwritten, overwritten-is, overwritten-more}
use Rattle.lists.proofs.SumLaws.{sum_where-ext}
use Rattle.lists.proofs.TableLaws.{table-ext, joined-le}
use Rattle.form.specs.Borrowings.{borrowing_count}
use Rattle.form.specs.Shift.{scenario_count}
use Rattle.pricing.specs.Rounding.{down, up}
use Rattle.borrowing_numbers.specs.Borrowed.{borrowed_by}
use Rattle.borrowing_numbers.specs.Numbers.{borrowing_totals_start, borrowing_number_count, borrowing_numbers, total_by, totals_of, numbers}
use Rattle.borrowing_numbers.specs.Inner.Rows.{BorrowingLimits, value_limit, WithinRows, number_at, row_totals}
use Rattle.borrowing_numbers.proofs.NumberLaws.{rows, totals, rows-length, totals-length, row-lower, row-upper}
use Rattle.borrowing_numbers.proofs.SizeLaws.{row-le}

-- the totals from the rows
pub totals-are : (cells : List ℕ) (z : ℕ → ℕ → ℕ) (rest : List ℕ) (scenario : ℕ) → scenario < scenario_count
    → row_totals (rows cells z ++ rest) scenario ≡ totals_of cells z scenario
unfolding row_totals totals_of total_by number_at
totals-are cells z rest scenario h =
    rw (
      sum_where-ext everywhere _ (borrowed_by down cells z scenario) borrowing_count (λ i p. row-lower cells z rest _ scenario i refl h p),
      sum_where-ext everywhere _ (borrowed_by up cells z scenario) borrowing_count (λ i p. row-upper cells z rest _ scenario i refl h p),
    )

-- a list whose first 360 numbers are overwritten by the rows
module _ (cells : List ℕ) (z : ℕ → ℕ → ℕ) (before after : List ℕ) (long : borrowing_number_count ≤ length before)
    (written-rows : after ≡ rows cells z ++ drop borrowing_totals_start before) where
  rows_in : Overwritten (rows cells z) borrowing_totals_start before after
  rows_in = overwritten-is (rows cells z) borrowing_totals_start before after (rows-length cells z) (omega arith) written-rows

  -- no number of the rows is above the limit of a value
  pub rows-within : BorrowingLimits cells → WithinRows after
  rows-within limits =
      record {
        long = rw rows_in.as_long (omega arith);
        within = λ i h. rw (written-rows, get_or-append (rows cells z) (drop borrowing_totals_start before) 0 i (rw (rows-length cells z) h))
            (joined-le 0 borrowing_count (borrowing_numbers cells z) value_limit (λ j k b p. row-le cells z limits j (omega arith) k) i);
      }

  -- the totals written behind the rows make the 374 numbers
  pub numbers-written : (run : List ℕ) → run ≡ joined (table scenario_count (row_totals after))
      → written after borrowing_totals_start run ≡ numbers cells z ++ drop borrowing_number_count before
  unfolding numbers
  numbers-written run e =
      rw made (overwritten-more (rows cells z) (totals cells z) borrowing_totals_start borrowing_number_count before after rows_in (rw (totals-length cells z)) long).is
    where
      made : run ≡ totals cells z
      made = e ∙ rw written-rows (ap joined (table-ext scenario_count _ _ (totals-are cells z (drop borrowing_totals_start before))))
