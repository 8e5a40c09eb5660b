-- A list that begins with the 374 numbers of valid borrowings encloses their exact values. Assumes nothing.
use Prim.Native.Nat.{ℕ, ◌+◌, ◌-◌, ◌*◌, ◌≤◌, ◌<◌}
use mathlib.Core.Path.{◌≡◌, refl, sym, ◌∙◌}
use native.Mathlib.Omega.{arith}
use mathlib.Core.List.{List}
use lib.Dec.{lit<}
use Rattle.lists.specs.Sums.{sum_where, everywhere}
use Rattle.lists.proofs.SumLaws.{sum_where-ext, sum-everywhere}
use Rattle.fraction.specs.Fraction.{Encloses}
use Rattle.fraction.specs.Totals.{total_where}
use Rattle.fraction.proofs.EnclosureLaws.{total-encloses}
use Rattle.form.specs.Borrowings.{borrowing_count, borrowings_total_cell}
use Rattle.form.specs.Shift.{scenario_count}
use Rattle.filing_cells.specs.Balances.{cell_in}
use Rattle.filing_cells.specs.BorrowingConditions.{borrowings}
use Rattle.filing_cells.specs.ValidBorrowings.{ValidBorrowings}
use Rattle.pricing.specs.Rounding.{down, up}
use Rattle.pricing.proofs.EnclosedValuesLaws.{values-enclosed}
use Rattle.borrowing_prices.proofs.EnclosureLaws.{value-encloses}
use Rattle.borrowing_prices.proofs.WidthLaws.{value-width}
use Rattle.filing_contents.specs.Contents.{Contents, libor_yield}
use Rattle.filing_contents.specs.Valid.{Valid}
use Rattle.price_factors.specs.Inner.Factors.{WithinRates, sheet_yield}
use Rattle.borrowing_numbers.specs.Inner.Rows.{BorrowingLimits}
use Rattle.borrowing_numbers.specs.Borrowed.{libor_rate, balance_of, coupon_of, months_of, exact_borrowed, borrowed_by}
use Rattle.borrowing_numbers.specs.Numbers.{total_by, totals_of}
use Rattle.borrowing_numbers.specs.Promise.{balance_in, lower_in, upper_in, total_number, EnclosedBorrowings}
use Rattle.borrowing_numbers.proofs.NumberLaws.{list, balance-read, lower-read, upper-read, total-read}

-- borrowings of a valid filing are within the limits that the code asks
pub borrowing-limits : (cells : List ℕ) → ValidBorrowings cells → BorrowingLimits cells
unfolding balance_of coupon_of months_of
borrowing-limits cells v = record { balance-le = v.balance-limit; coupon-le = v.coupon-limit; months-le = v.months-limit }

-- and its LIBOR yields within theirs
pub libor-within : (k : Contents) → Valid k → WithinRates k.libor
unfolding libor_yield
libor-within k v i = let e : i + 1 - 1 ≡ i = omega arith in rw e at (v.libor-limit (i + 1))

-- the LIBOR yields of a filing, shifted, as the code reads them off its sheet
pub libor-is : (k : Contents) → sheet_yield k.libor ≡ libor_rate k
unfolding sheet_yield libor_rate libor_yield
libor-is k = refl

module _ (cells : List ℕ) (z : ℕ → ℕ → ℕ) where
  borrowed-encloses : (scenario i : ℕ) → Encloses (borrowed_by down cells z scenario i) (exact_borrowed cells z scenario i) (borrowed_by up cells z scenario i)
  unfolding borrowed_by exact_borrowed
  borrowed-encloses scenario i = value-encloses (balance_of cells i) (coupon_of cells i) (months_of cells i) (z scenario)

  total-enclosed : (scenario : ℕ)
      → Encloses (total_by down cells z scenario) (total_where everywhere (exact_borrowed cells z scenario) borrowing_count) (total_by up cells z scenario)
  unfolding total_by
  total-enclosed scenario = total-encloses everywhere _ _ _ borrowing_count (borrowed-encloses scenario)

  module _ (rest : List ℕ) where
    value_in_lem : (scenario i : ℕ) → scenario < scenario_count → i < borrowing_count
        → Encloses (lower_in (list cells z rest) scenario i) (exact_borrowed cells z scenario i) (upper_in (list cells z rest) scenario i)
    value_in_lem scenario i hs hi = rw (lower-read cells z rest scenario i hs hi, upper-read cells z rest scenario i hs hi) (borrowed-encloses scenario i)

    totals-in : (scenario : ℕ) → scenario < scenario_count
        → Encloses (total_number (list cells z rest) 0 scenario) (total_where everywhere (exact_borrowed cells z scenario) borrowing_count)
        (total_number (list cells z rest) 1 scenario)
    unfolding totals_of
    totals-in scenario h = rw (total-read cells z rest 0 scenario h (lit< tt), total-read cells z rest 1 scenario h (lit< tt)) (total-enclosed scenario)

    module _ (v : ValidBorrowings cells) where
      width-in : (scenario i : ℕ) → scenario < scenario_count → i < borrowing_count
          → 250 * upper_in (list cells z rest) scenario i ≤ 250 * lower_in (list cells z rest) scenario i + (balance_in (list cells z rest) i + 500)
      unfolding borrowed_by coupon_of months_of
      width-in scenario i hs hi =
          rw (lower-read cells z rest scenario i hs hi, upper-read cells z rest scenario i hs hi, balance-read cells z rest i hi)
          (value-width (balance_of cells i) (coupon_of cells i) (months_of cells i) (z scenario) (v.coupon-limit i hi) (v.months-limit i hi))

      sum-in : sum_where everywhere (balance_in (list cells z rest)) borrowing_count ≡ cell_in cells borrowings_total_cell
      unfolding borrowings balance_of
      sum-in =
          sum_where-ext everywhere _ (balance_of cells) borrowing_count (balance-read cells z rest)
          ∙ sym (sum-everywhere (balance_of cells) borrowing_count)
          ∙ sym v.total-is-sum

      -- each value read off the list is the run's, which encloses the exact one within its balance's width; the balances add up to cell 715, so
      -- that the widths add up to the total's; the totals read off the list enclose the sums of the exact values
      pub borrowings-enclosed : EnclosedBorrowings cells z (list cells z rest)
      borrowings-enclosed =
          let l = list cells z rest in
          record {
            balances-are = balance-read cells z rest;
            values-enclosed =
                values-enclosed borrowing_count (balance_in l) (lower_in l) (upper_in l) (exact_borrowed cells z) (cell_in cells borrowings_total_cell) value_in_lem width-in
                sum-in;
            totals-enclose = totals-in;
          }
