-- The totals that are taken from the rows of the places are those of the definitions, and the 568 numbers stand in the list. Assumes nothing.
use Prim.Native.Nat.{ℕ, ◌+◌, ◌*◌, ◌≤◌, ◌<◌}
use mathlib.Core.Path.{◌≡◌, refl, ap, ◌∙◌}
use mathlib.Core.Bool.{Bool}
use mathlib.Core.List.{List, ◌++◌}
use native.Mathlib.Omega.{arith}
use lib.ListN.{length, drop, get_or-append}
use Rattle.lists.specs.Runs.{written}
use Rattle.lists.specs.Sums.{sum, sum_where}
use Rattle.lists.specs.Tables.{table_from, table, joined}
use Rattle.lists.proofs.RunLaws.{Overwritten, overwritten-is, overwritten-more}
use Rattle.lists.proofs.SumLaws.{sum_where-ext}
use Rattle.lists.proofs.TableLaws.{table-ext, joined-le}
use Rattle.form.specs.Cells.{positions, position, position_at}
use Rattle.filing_contents.specs.Contents.{Contents}
use Rattle.filing_contents.specs.Valid.{Valid}
use Rattle.form.specs.PlaceOrder.{position_of, is_short, is_long, sub_balance_count}
use Rattle.form.specs.Shift.{scenario_count}
use Rattle.form.specs.Counts.{totals_start, number_count}
use Rattle.pricing.specs.Rounding.{down, up}
use Rattle.value_numbers.specs.Run.{value_at, total_by}
use Rattle.value_numbers.specs.Numbers.{place_numbers, scenario_totals, numbers}
use Rattle.value_places.specs.RowTotals.{value_limit, WithinRows, number_at, row_totals}
use Rattle.value_numbers.proofs.NumberLaws.{rows, totals, rows-length, totals-length, lower-read, upper-read}
use Rattle.value_numbers.proofs.RowLaws.{row-le}

-- rows 1 and 2 are places 0 to 23, rows 3 and 4 places 24 to 35
short-sum : (f : ℕ → ℕ) → sum (table_from 0 24 f) ≡ sum_where is_short f sub_balance_count
unfolding sum table_from sum_where is_short position_of positions position_at position
short-sum f = omega arith

long-sum : (f : ℕ → ℕ) → sum (table_from 24 12 f) ≡ sum_where is_long f sub_balance_count
unfolding sum table_from sum_where is_long is_short position_of positions position_at position
long-sum f = omega arith

-- a list that begins with the rows of the places
module _ (k : Contents) (rest : List ℕ) where
  module _ (scenario : ℕ) (h : scenario < scenario_count) (test : ℕ → Bool) where
    lowers : sum_where test (number_at (rows k ++ rest) (2 * scenario + 1)) sub_balance_count ≡ sum_where test (value_at down k scenario) sub_balance_count
    unfolding number_at
    lowers = sum_where-ext test _ (value_at down k scenario) sub_balance_count (λ place p. lower-read k rest _ scenario place refl h p)

    uppers : sum_where test (number_at (rows k ++ rest) (2 * scenario + 2)) sub_balance_count ≡ sum_where test (value_at up k scenario) sub_balance_count
    unfolding number_at
    uppers = sum_where-ext test _ (value_at up k scenario) sub_balance_count (λ place p. upper-read k rest _ scenario place refl h p)

  -- the totals from the rows
  pub totals-are : (scenario : ℕ) → scenario < scenario_count → row_totals (rows k ++ rest) scenario ≡ scenario_totals k scenario
  unfolding row_totals scenario_totals total_by
  totals-are scenario h =
      let low = number_at (rows k ++ rest) (2 * scenario + 1) in
      let high = number_at (rows k ++ rest) (2 * scenario + 2) in
      rw (short-sum low, short-sum high, long-sum low, long-sum high)
      (rw (lowers scenario h is_short, uppers scenario h is_short, lowers scenario h is_long, uppers scenario h is_long))

-- a list whose first 540 numbers are overwritten by the rows
module _ (k : Contents) (before after : List ℕ) (long : number_count ≤ length before) (written-rows : after ≡ rows k ++ drop totals_start before) where
  rows_in : Overwritten (rows k) totals_start before after
  rows_in = overwritten-is (rows k) totals_start before after (rows-length k) (omega arith) written-rows

  -- no number of the rows is above the limit of a value
  pub rows-within : Valid k → WithinRows after
  rows-within v =
      record {
        long = rw rows_in.as_long (omega arith);
        within = λ i h. rw (written-rows, get_or-append (rows k) (drop totals_start before) 0 i (rw (rows-length k) h))
            (joined-le 0 sub_balance_count (place_numbers k) value_limit (λ place j b p. row-le k v place (omega arith) j) i);
      }

  -- the totals written behind the rows make the 568 numbers
  pub numbers-written : (run : List ℕ) → run ≡ joined (table scenario_count (row_totals after)) → written after totals_start run ≡ numbers k ++ drop number_count before
  unfolding numbers
  numbers-written run e =
      rw made (overwritten-more (rows k) (totals k) totals_start number_count before after rows_in (rw (totals-length k)) long).is
    where
      made : run ≡ totals k
      made = e ∙ rw written-rows (ap joined (table-ext scenario_count _ _ (totals-are k (drop totals_start before))))
