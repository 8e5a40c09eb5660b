-- What holds of cells that 19 and 7 to 9 do not refuse.
-- Assumes nothing.
use Prim.Native.Nat.{ℕ, ◌+◌, ◌%◌, ◌≤◌, ◌<◌}
use native.Mathlib.Omega.{arith}
use mathlib.Core.Path.{◌≡◌, sym, ap, ◌∙◌}
use mathlib.Core.Bool.{Bool, true, false, not, ◌&&◌, true≢false}
use mathlib.Core.List.{List}
use borrow.Author.Tests.{ltb-false, eqb-true, ne_eqb, not-false}
use lib.Dec.{T, eqb}
use Rattle.lists.specs.Sums.{sum}
use Rattle.form.specs.Cells.{position_at, within_row, total_cell, first_column_cell}
use Rattle.answers.specs.Verdict.{Verdict, first_refusal}
use Rattle.answers.proofs.VerdictLaws.{first-none, tried-none, condition-fails}
use Rattle.filing_cells.specs.Balances.{cell_in, column_balances, balances}
use Rattle.filing_cells.specs.Conditions.{months_outside, above_column, total_differs}
use Rattle.filing_cells.specs.CellVerdicts.{position_verdict, months_verdict, column_verdict, columns_verdict, total_verdict, cells_verdict}
use Rattle.filing_cells.specs.BorrowingVerdicts.{coupons_verdict, terms_verdict, borrowings_verdict}
use Rattle.filing_cells.proofs.ConditionLaws.{months_at, columns_at, months-in-turn, columns-in-turn}

-- months that are outside nowhere but without a balance
within : (zero inside : Bool) → zero ≡ false → (not zero && not inside) ≡ false → T inside
within true inside e h = absurd (true≢false e)
within false true e h = tt
within false false e h = absurd (true≢false h)

-- the verdicts on the cells in their order, each before those behind it
pub cells-in-turn : (cells : List ℕ) {coupons months terms columns total borrowed from-coupons from-months from-terms from-columns from-total : Verdict}
    → borrowed ≡ borrowings_verdict cells
    → total ≡ total_verdict cells → from-total ≡ first_refusal total borrowed
    → columns ≡ columns_verdict cells → from-columns ≡ first_refusal columns from-total
    → terms ≡ terms_verdict cells → from-terms ≡ first_refusal terms from-columns
    → months ≡ months_verdict cells → from-months ≡ first_refusal months from-terms
    → coupons ≡ coupons_verdict cells → from-coupons ≡ first_refusal coupons from-months
    → from-coupons ≡ cells_verdict cells
unfolding cells_verdict
cells-in-turn cells b t t' k k' n n' m m' c c' = rw (c', c, m', m, n', n, k', k, t', t, b)

-- none of the verdicts on the cells refuses
pub record CellsPassed (cells : List ℕ) : Type 0 where
  pub coupons : (coupons_verdict cells).number ≡ 0
  pub months : (months_verdict cells).number ≡ 0
  pub terms : (terms_verdict cells).number ≡ 0
  pub columns : (columns_verdict cells).number ≡ 0
  pub total : (total_verdict cells).number ≡ 0
  pub borrowings : (borrowings_verdict cells).number ≡ 0

-- the first refusal of the six is none, so that none of them refuses
pub cells-passed : (cells : List ℕ) → (cells_verdict cells).number ≡ 0 → CellsPassed cells
unfolding cells_verdict
cells-passed cells passed =
    let first = first-none (coupons_verdict cells) _ passed in
    let second = first-none (months_verdict cells) _ first.1 in
    let third = first-none (terms_verdict cells) _ second.1 in
    let fourth = first-none (columns_verdict cells) _ third.1 in
    let fifth = first-none (total_verdict cells) _ fourth.1 in
    record { coupons = first.0; months = second.0; terms = third.0; columns = fourth.0; total = fifth.0; borrowings = fifth.1 }

module _ (cells : List ℕ) (passed : CellsPassed cells) where
  -- 7 holds at none of the nine positions
  months-inside : (i : ℕ) → i < 9 → months_outside cells (position_at i) ≡ false
  unfolding position_verdict
  months-inside i l =
      condition-fails (months_outside cells (position_at i)) 6 (position_at i).months
      (tried-none (months_at cells) 9 (ap (λ (v : Verdict). v.number) (sym (months-in-turn cells)) ∙ passed.months) i l)

  -- so a balance has its months within its row
  pub months-hold : (i : ℕ) → i < 9 → 0 < cell_in cells (position_at i).balance
      → T (within_row (position_at i).row (cell_in cells (position_at i).months))
  unfolding months_outside
  months-hold i l pos =
      within (eqb (cell_in cells (position_at i).balance) 0) (within_row (position_at i).row (cell_in cells (position_at i).months))
      (ne_eqb (cell_in cells (position_at i).balance) 0 (λ e. omega arith)) (months-inside i l)

  -- 8 holds at none of the six balances of columns: each is at most its column's sum
  pub column-holds : (i : ℕ) → i < 6 → cell_in cells (i + first_column_cell) ≤ sum (column_balances cells (i % 3 + 1))
  unfolding column_verdict above_column
  column-holds i l =
      ltb-false (sum (column_balances cells (i % 3 + 1))) (cell_in cells (i + first_column_cell))
      (condition-fails (above_column cells (i % 3 + 1) (i + first_column_cell)) 7 (i + first_column_cell)
      (tried-none (columns_at cells) 6 (ap (λ (v : Verdict). v.number) (sym (columns-in-turn cells)) ∙ passed.columns) i l))

  -- 9 does not hold: the total is the sum of the nine balances
  pub total-holds : cell_in cells total_cell ≡ sum (balances cells)
  unfolding total_verdict total_differs
  total-holds =
      eqb-true (cell_in cells total_cell) (sum (balances cells))
      (not-false (eqb (cell_in cells total_cell) (sum (balances cells)))
      (condition-fails (total_differs cells) 8 total_cell passed.total))
