-- What an accepted filing says is valid.
-- Assumes nothing.
use Prim.Native.Nat.{ℕ, ◌+◌, ◌-◌, ◌*◌, ◌/◌, ◌≤◌, ◌<◌}
use native.Mathlib.Omega.{arith}
use mathlib.Core.Path.{◌≡◌, refl, sym, ◌∙◌}
use mathlib.Core.Bool.{Bool, true, false, cond, ◌&&◌}
use mathlib.Core.List.{List}
use borrow.Author.Tests.{leb-false, le-leb, ltb-true, ltb-false}
use lib.Dec.{leb, ltb, lit<}
use lib.ListN.{length}
use Rattle.lists.specs.Sums.{sum}
use Rattle.lists.proofs.TableLaws.{table-le}
use Rattle.form.specs.Cells.{position_at, brokered_cell, penalty_balance_cell, penalty_months_cell}
use Rattle.form.specs.Borrowings.{borrowing_at}
use Rattle.form.specs.Limits.{class_limit, held_limit, sheet_months, rate_limit, rate_count}
use Rattle.form.specs.Shift.{path_rate}
use Rattle.form.proofs.CellLaws.{coupon-cell, months-cell, penalty-months-cell, borrowing-coupon-cell, borrowing-months-cell}
use Rattle.record_fields.specs.Records.{sheet_number}
use Rattle.record_fields.proofs.ByteLaws.{number_past}
use Rattle.record_kinds.specs.Kinds.{flat_rates_kind, rate_path_kind, libor_kind, sheet_of, sheet_kinds, sheet_kind}
use Rattle.lists.proofs.TestLaws.{neither}
use Rattle.filing_decode.specs.Contents.{sheet_offset, rate_number, contents_of}
use Rattle.filing_contents.specs.Contents.{cell, cd_yield, retail_rate, libor_yield}
use Rattle.filing_cells.specs.Balances.{column_balances}
use Rattle.filing.specs.RequiredSheets.{sheet_missing}
use Rattle.filing.specs.Verdict.{Accepted}
use Rattle.filing_contents.specs.Valid.{Valid}
use Rattle.filing_cells.proofs.SumLaws.{by-column}
use Rattle.filing_decode.proofs.SoundLaws.{cell-within, balances-within, borrowings-within, sheet-limit, tier-count-within, tier-edges-rise, tier-withdrawal-within}
use Rattle.filing.proofs.VerdictLaws.{accepted-passed}
use Rattle.filing_cells.proofs.CellVerdictLaws.{cells-passed, months-hold, column-holds, total-holds}
use Rattle.filing_cells.proofs.BorrowingLaws.{borrowing-coupon, borrowing-months, borrowings-total-holds}

module _ (s : List ℕ) (a : Accepted s) where
  -- the yields are present, and so are the rates that no path replaces
  missing : (leb (length s) (sheet_offset s 2) ≡ false) × ((leb (length s) (sheet_offset s flat_rates_kind) && leb (length s) (sheet_offset s rate_path_kind)) ≡ false)
  unfolding sheet_missing
  missing = neither (leb (length s) (sheet_offset s 2)) _ (accepted-passed s a).none-missing

  flat-present : length s ≤ sheet_offset s rate_path_kind → sheet_offset s flat_rates_kind < length s
  flat-present h = leb-false (length s) (sheet_offset s flat_rates_kind) (first-false _ missing.1)
    where
      first-false : (b : Bool) → (b && leb (length s) (sheet_offset s rate_path_kind)) ≡ false → b ≡ false
      first-false true e = sym (le-leb (length s) (sheet_offset s rate_path_kind) h) ∙ e
      first-false false e = refl

  limit : (kind : ℕ) → sheet_offset s kind < length s
      → (i : ℕ) → 1 ≤ i → i ≤ (sheet_kind kind).numbers → sheet_number s (sheet_offset s kind) i ≤ (sheet_kind kind).limit
  limit = sheet-limit s (accepted-passed s a).none-faulty

  yield-within : (t : ℕ) → cd_yield (contents_of s) t ≤ rate_limit
  unfolding cd_yield contents_of sheet_of sheet_kinds sheet_kind
  yield-within t =
      table-le 1 sheet_months (sheet_number s (sheet_offset s 2)) rate_limit
      (λ j l u. limit 2 (leb-false (length s) (sheet_offset s 2) missing.0) j l (omega arith)) (t - 1)

  -- a retail rate is a number of the path where one is filed, else of the flat sheet, and each sheet's numbers are within its limit
  number-within : (i : ℕ) → i < rate_count → rate_number s i ≤ rate_limit
  unfolding rate_number sheet_of sheet_kinds sheet_kind
  number-within i h = by (ltb (sheet_offset s rate_path_kind) (length s)) refl
    where
      by : (b : Bool) → ltb (sheet_offset s rate_path_kind) (length s) ≡ b
          → cond b (sheet_number s (sheet_offset s rate_path_kind) (i + 1)) (sheet_number s (sheet_offset s flat_rates_kind) (i / sheet_months + 1)) ≤ rate_limit
      by true e = limit rate_path_kind (ltb-true (sheet_offset s rate_path_kind) (length s) e) (i + 1) (omega arith) (omega arith)
      by false e =
          limit flat_rates_kind (flat-present (ltb-false (sheet_offset s rate_path_kind) (length s) e)) (i / sheet_months + 1) (omega arith) (omega arith)

  rate-within : (j t : ℕ) → retail_rate (contents_of s) j t ≤ rate_limit
  unfolding path_rate contents_of
  rate-within j t = table-le 0 rate_count (rate_number s) rate_limit (λ i l u. number-within i (omega arith)) (sheet_months * (j - 1) + (t - 1))

  -- a LIBOR yield is a number of its sheet where one is filed, and else 0
  libor-within : (t : ℕ) → libor_yield (contents_of s) t ≤ rate_limit
  unfolding libor_yield contents_of sheet_of sheet_kinds sheet_kind
  libor-within t =
      table-le 1 sheet_months (sheet_number s (sheet_offset s libor_kind)) rate_limit (λ j l u. by j l (omega arith) (ltb (sheet_offset s libor_kind) (length s)) refl) (t - 1)
    where
      by : (j : ℕ) → 1 ≤ j → j ≤ sheet_months → (b : Bool) → ltb (sheet_offset s libor_kind) (length s) ≡ b → sheet_number s (sheet_offset s libor_kind) j ≤ rate_limit
      by j l u true e = limit libor_kind (ltb-true (sheet_offset s libor_kind) (length s) e) j l u
      by j l u false e =
          omega (arith, number_past s (sheet_offset s libor_kind + 2 + 2 * j) 2 (omega (arith, ltb-false (sheet_offset s libor_kind) (length s) e)))

  -- what an accepted filing says is valid: its records are sound, so that each cell, yield, rate and tier is within its limit; 7 leaves months
  -- within their rows and terms, 8 brokered and penalized balances within their columns, 9 totals that are the sums, 19 coupons within their classes
  pub accepted-valid : Valid (contents_of s)
  unfolding held_limit class_limit brokered_cell penalty_balance_cell
  accepted-valid =
      let k = contents_of s in
      let passed = accepted-passed s a in
      let within = cell-within s passed.none-faulty in
      let cells = cells-passed k.cells passed.cells in
      let column = column-holds k.cells cells in
      record {
        of-cells = record {
          balance-limit = balances-within s passed.none-faulty;
          coupon-limit = λ i h. within (position_at i).coupon 2 (coupon-cell i h);
          months-limit = λ i h. within (position_at i).months 3 (months-cell i h);
          months-in-row = months-hold k.cells cells;
          penalty-limit = λ j l u. within (penalty_months_cell j) 5 (penalty-months-cell j l u);
          brokered-within =
              by-column (λ (j : ℕ). cell k (brokered_cell j) ≤ sum (column_balances k.cells j)) (column 0 (lit< tt)) (column 1 (lit< tt)) (column 2 (lit< tt));
          penalized-within =
              by-column (λ (j : ℕ). cell k (penalty_balance_cell j) ≤ sum (column_balances k.cells j)) (column 3 (lit< tt)) (column 4 (lit< tt)) (column 5 (lit< tt));
          total-is-sum = total-holds k.cells cells;
        };
        of-borrowings = record {
          balance-limit = borrowings-within s passed.none-faulty;
          coupon-limit = λ i h. within (borrowing_at i).coupon 9 (borrowing-coupon-cell i h);
          months-limit = λ i h. within (borrowing_at i).months 10 (borrowing-months-cell i h);
          coupon-in-class = borrowing-coupon k.cells cells.coupons;
          months-in-term = borrowing-months k.cells cells.terms;
          total-is-sum = borrowings-total-holds k.cells cells.borrowings;
        };
        yield-limit = yield-within;
        rate-limit = rate-within;
        libor-limit = libor-within;
        tier-count-limit = tier-count-within s passed.none-faulty;
        edges-rise = tier-edges-rise s passed.none-faulty;
        withdrawal-limit = tier-withdrawal-within s passed.none-faulty;
      }
