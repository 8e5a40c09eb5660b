-- The verdict on the cells of a filing (01:37-39, 01:41; 02:CR 8): 19, then 7 to 9, each by ascending cell number. Definitions only.
use Rattle.std.specs.Prelude.{ℕ, List, [], ◌∷◌, map}
use Rattle.form.specs.declared.Position.{Position}
use Rattle.form.specs.Cells.{positions, brokered_cell, penalty_balance_cell, total_cell}
use Rattle.answers.specs.Verdict.{Verdict, refused_if, first_refusal, first_of}
use Rattle.filing_cells.specs.Conditions.{months_outside, above_column, total_differs}
use Rattle.filing_cells.specs.BorrowingVerdicts.{coupons_verdict, terms_verdict, borrowings_verdict}

-- 7 at a position, at its WARM cell; and the first of the nine, by ascending WARM cell
unfoldable pub position_verdict : List ℕ → Position → Verdict
position_verdict cells p = refused_if (months_outside cells p) 7 p.months

unfoldable pub months_verdict : List ℕ → Verdict
months_verdict cells = first_of (map (position_verdict cells) positions)

-- 8 at a column's cell; and the first of the six, by ascending cell: the brokered balances, then the balances subject to penalty
unfoldable pub column_verdict : List ℕ → ℕ → ℕ → Verdict
column_verdict cells column n = refused_if (above_column cells column n) 8 n

unfoldable pub columns_verdict : List ℕ → Verdict
columns_verdict cells =
    first_of
    (column_verdict cells 1 (brokered_cell 1)
    ∷ column_verdict cells 2 (brokered_cell 2)
    ∷ column_verdict cells 3 (brokered_cell 3)
    ∷ column_verdict cells 1 (penalty_balance_cell 1)
    ∷ column_verdict cells 2 (penalty_balance_cell 2)
    ∷ column_verdict cells 3 (penalty_balance_cell 3)
    ∷ [])

-- 9, at the total
unfoldable pub total_verdict : List ℕ → Verdict
total_verdict cells = refused_if (total_differs cells) 9 total_cell

-- 19; then 7, of the certificates and then of the borrowings; then 8; then 9, at cell 645 and then at cell 715
unfoldable pub cells_verdict : List ℕ → Verdict
cells_verdict cells =
    first_refusal (coupons_verdict cells)
    (first_refusal (months_verdict cells)
    (first_refusal (terms_verdict cells)
    (first_refusal (columns_verdict cells)
    (first_refusal (total_verdict cells)
    (borrowings_verdict cells)))))
