-- A filing made of the cells that accepted certificates fill and of two sound sheets is accepted. Assumes nothing.
use Prim.Native.Nat.{ℕ, ◌≤◌, ◌<◌}
use native.Mathlib.Omega.{arith}
use mathlib.Core.Path.{◌≡◌, refl, sym, ap, ◌∙◌}
use mathlib.Core.Bool.{Bool, true, false, not, and-false, ◌&&◌}
use mathlib.Core.List.{List, map}
use borrow.Author.Tests.{le-ltb, eq-eqb, eqb-false}
use lib.Dec.{leb, eqb}
use lib.ListN.{length}
use Rattle.lists.specs.Sums.{sum}
use Rattle.lists.specs.Tables.{table_from, table, contains}
use Rattle.lists.proofs.TableLaws.{table-ext}
use Rattle.form.specs.declared.Position.{Position}
use Rattle.form.specs.Cells.{position, positions, position_at, within_row, total_cell, brokered_cell, penalty_balance_cell, penalty_months_cell, unused_cells, last_cell}
use Rattle.form.specs.Borrowings.{borrowing_count, borrowing, borrowing_at, coupon_cell, term_cell, borrowings_total_cell}
use Rattle.form.specs.Limits.{rate_limit}
use Rattle.form.specs.Classes.{cell_class}
use Rattle.form.proofs.CellLaws.{CellOf, balance-cell, months-cell, borrowing-balance-cell}
use Rattle.answers.specs.Verdict.{Verdict, accepted, refused_if, first_refusal, first_of}
use Rattle.filing_cells.specs.Balances.{cell_in, column_balances, balances}
use Rattle.filing_cells.specs.Conditions.{months_outside, above_column, total_differs}
use Rattle.filing_cells.specs.CellVerdicts.{position_verdict, months_verdict, column_verdict, columns_verdict, total_verdict, cells_verdict}
use Rattle.record_kinds.specs.Kinds.{libor_kind}
use Rattle.filing_decode.specs.Contents.{sheet_offset, contents_of}
use Rattle.filing.specs.RequiredSheets.{sheet_verdict, libor_missing, libor_verdict}
use Rattle.filing.specs.Verdict.{filing_verdict}
use Rattle.certificate_calendar.specs.declared.Date.{Date}
use Rattle.certificate_terms.specs.Terms.{certificate_count}
use Rattle.certificate_cells.specs.declared.filled_cells.Totals.{Totals}
use Rattle.certificate_cells.specs.declared.filled_cells.CellValue.{CellValue}
use Rattle.certificate_cells.specs.Cells.{cells_of}
use Rattle.certificates.specs.Sums.{totals_of}
use Rattle.certificates.specs.Verdict.{certificates_verdict}
use Rattle.certificates.specs.Filled.{filled_cells}
use Rattle.certificates.proofs.CallLaws.{totals-bounded, filled-some}
use Rattle.theorem_certificates.proofs.FilledLaws.{all-passed}
use Rattle.theorem_certificates.specs.Fit.{value_in, Fit}
use Rattle.theorem_certificates.specs.Filed.{run, filed_bodies, filing_of}
use Rattle.theorem_certificates.proofs.LookUpLaws.{value-past}
use Rattle.theorem_certificates.proofs.TotalLaws.{filled-total-le}
use Rattle.theorem_certificates.proofs.FitLaws.{balances-by-position, certificates-fit}
use Rattle.theorem_certificates.proofs.FileableLaws.{Fileable, cells-fileable}
use Rattle.theorem_certificates.proofs.FiledLaws.{records-pass}
use Rattle.theorem_certificates.proofs.NoneBorrowedLaws.{none-refuses, none-some, coupons-pass, terms-pass, borrowings-pass}
use Rattle.theorem_certificates.proofs.SaidLaws.{sheets-there, said_cells, said}

-- the nine positions as a table
by-position : (f : Position → Verdict) → map f positions ≡ table 9 (λ (i : ℕ). f (position_at i))
unfolding positions position_at position table_from
by-position f = refl

module _ (cells : List CellValue) (yields rates : ℕ → ℕ) (fileable : Fileable 0 cells) (ys : (t : ℕ) → yields t ≤ rate_limit) (rs : (j : ℕ) → rates j ≤ rate_limit)
    (fit : Fit cells) (past : (n : ℕ) → total_cell < n → value_in cells n ≡ 0) where
  abbrev made : List ℕ
  made = run (filed_bodies cells yields rates)

  abbrev told : List ℕ
  told = said_cells cells yields rates fileable ys rs

  says : (n class : ℕ) → CellOf n class → eqb class 2 ≡ false → cell_in told n ≡ value_in cells n
  says = said cells yields rates fileable ys rs

  -- 7: each WARM within its row
  row-tests : (empty inside : Bool) → (empty ≡ false → inside ≡ true) → (not empty && not inside) ≡ false
  row-tests true inside f = refl
  row-tests false inside f = rw (f refl)

  months-inside : (i : ℕ) → i < 9 → months_outside told (position_at i) ≡ false
  unfolding months_outside
  months-inside i h =
      rw (says (position_at i).balance 1 (balance-cell i h) refl, says (position_at i).months 3 (months-cell i h) refl)
      (row-tests (eqb (value_in cells (position_at i).balance) 0) (within_row (position_at i).row (value_in cells (position_at i).months))
      (λ e. let some = eqb-false (value_in cells (position_at i).balance) 0 e in fit.months-in-row i h (omega arith)))

  month-passes : (i : ℕ) → i < 9 → position_verdict told (position_at i) ≡ accepted
  unfolding position_verdict refused_if
  month-passes i h = rw (months-inside i h)

  months-pass : months_verdict told ≡ accepted
  unfolding months_verdict
  months-pass = ap first_of (by-position (position_verdict told)) ∙ none-refuses (λ (i : ℕ). position_verdict told (position_at i)) 0 9 month-passes

  -- 8: nothing is brokered or subject to penalty
  column-passes : (column n : ℕ) → total_cell < n → n ≤ last_cell → cell_class n ≡ 4 → column_verdict told column n ≡ accepted
  unfolding column_verdict above_column refused_if
  column-passes column n l u e =
      let none : cell_in told n ≡ 0 = says n 4 (record { from_first = omega arith; to_last = u; in-class = e }) refl ∙ past n l in
      rw (none, le-ltb (sum (column_balances told column)) 0 (omega arith))

  -- the six cells of columns lie behind the total, where certificates fill nothing: each is 0, which is not above its column
  columns-pass : columns_verdict told ≡ accepted
  unfolding columns_verdict first_of first_refusal accepted brokered_cell penalty_balance_cell penalty_months_cell cell_class contains positions position
  columns-pass =
      rw (
        column-passes 1 650 (omega arith) (omega arith) refl,
        column-passes 2 651 (omega arith) (omega arith) refl,
        column-passes 3 652 (omega arith) (omega arith) refl,
        column-passes 1 653 (omega arith) (omega arith) refl,
        column-passes 2 654 (omega arith) (omega arith) refl,
        column-passes 3 655 (omega arith) (omega arith) refl,
      )

  -- 9: the total is the sum
  total-cell : CellOf total_cell 6
  unfolding cell_class contains positions position brokered_cell penalty_balance_cell penalty_months_cell
  total-cell = record { from_first = omega arith; to_last = omega arith; in-class = refl }

  balances-told : balances told ≡ map (λ (p : Position). value_in cells p.balance) positions
  unfolding balances
  balances-told =
      balances-by-position (cell_in told)
      ∙ table-ext 9 (λ (i : ℕ). cell_in told (position_at i).balance) (λ (i : ℕ). value_in cells (position_at i).balance)
      (λ i h. says (position_at i).balance 1 (balance-cell i h) refl)
      ∙ sym (balances-by-position (value_in cells))

  total-passes : total_verdict told ≡ accepted
  unfolding total_verdict total_differs refused_if
  total-passes =
      let same : cell_in told total_cell ≡ sum (balances told) = says total_cell 6 total-cell refl ∙ fit.total-is-sum ∙ ap sum (sym balances-told) in
      rw (eq-eqb (cell_in told total_cell) (sum (balances told)) same)

  -- 18, 19, and 7 and 9 of the borrowings: their cells lie behind the total too, and each is 0
  none-borrowed : (i : ℕ) → i < borrowing_count → cell_in told (borrowing_at i).balance ≡ 0
  unfolding borrowing_at borrowing
  none-borrowed i h = says (borrowing_at i).balance 8 (borrowing-balance-cell i h) refl ∙ past (borrowing_at i).balance (omega arith)

  borrowings-total : cell_in told borrowings_total_cell ≡ 0
  unfolding cell_class contains positions position brokered_cell penalty_balance_cell penalty_months_cell unused_cells borrowing borrowing_at coupon_cell term_cell table_from
  borrowings-total =
      says borrowings_total_cell 11 (record { from_first = omega arith; to_last = omega arith; in-class = refl }) refl
      ∙ past borrowings_total_cell (omega arith)

  no-libor-due : libor_missing made ≡ false
  unfolding libor_missing contents_of
  no-libor-due = rw (none-some told none-borrowed) (and-false (leb (length made) (sheet_offset made libor_kind)))

  cells-pass : cells_verdict told ≡ accepted
  unfolding cells_verdict first_refusal accepted
  cells-pass =
      rw (
        coupons-pass told none-borrowed,
        months-pass,
        terms-pass told none-borrowed,
        columns-pass,
        total-passes,
        borrowings-pass told none-borrowed borrowings-total,
      )

  -- no row of the table holds
  pub filing-accepted : filing_verdict (filing_of cells yields rates) ≡ accepted
  unfolding filing_of filing_verdict first_refusal sheet_verdict libor_verdict refused_if contents_of accepted
  filing-accepted =
      rw (records-pass cells yields rates fileable ys rs, sheets-there cells yields rates fileable ys rs, no-libor-due) cells-pass

-- the cells that accepted certificates fill, with two sheets of rates up to their limit
pub certificates-accepted : (v : Date) (s : List ℕ) (yields rates : ℕ → ℕ) → (certificates_verdict v s).number ≡ 0
    → ((t : ℕ) → yields t ≤ rate_limit) → ((j : ℕ) → rates j ≤ rate_limit)
    → filing_verdict (filing_of (filled_cells v s) yields rates) ≡ accepted
certificates-accepted v s yields rates h ys rs =
    let t : Totals = totals_of v s (certificate_count s) in
    let filled : filled_cells v s ≡ cells_of t = filled-some v s h in
    let fileable = cells-fileable t (totals-bounded v s (certificate_count s) (all-passed v s h)) (filled-total-le v s h) in
    rw filled (filing-accepted (cells_of t) yields rates fileable ys rs (rw filled at (certificates-fit v s h)) (value-past t))
