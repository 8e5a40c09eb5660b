-- The conditions 7 and 8: the months of one position, a cell beside its column's sum, and each condition as verdicts in turn.
-- Assumes nothing.
use Prim.Native.Nat.{ℕ, ◌+◌, ◌%◌, ◌<◌}
use native.Mathlib.Omega.{arith}
use mathlib.Core.Path.{◌≡◌, refl}
use mathlib.Core.Bool.{false, not}
use mathlib.Core.List.{List}
use borrow.Author.Tests.{eq-eqb, ne_eqb}
use lib.Dec.{ltb}
use lib.ListN.{get_or}
use Rattle.lists.specs.Tables.{table_from, table}
use Rattle.form.specs.declared.Position.{Position}
use Rattle.form.specs.Cells.{position, positions, position_at, within_row, brokered_cell, penalty_balance_cell, first_column_cell}
use Rattle.answers.specs.Verdict.{Verdict, first_of}
use Rattle.filing_cells.specs.Balances.{cell_in}
use Rattle.filing_cells.specs.Conditions.{months_outside, above_column}
use Rattle.filing_cells.specs.CellVerdicts.{position_verdict, months_verdict, column_verdict, columns_verdict}
use Rattle.filing_cells.proofs.SumLaws.{sums_before, sum-before, column-sum}

module _ (cells : List ℕ) where
  -- without a balance 7 does not hold; with one it does where the months lie outside the row
  pub outside-empty : (p : Position) → cell_in cells p.balance ≡ 0 → months_outside cells p ≡ false
  unfolding months_outside
  outside-empty p h = simp (eq-eqb (cell_in cells p.balance) 0 h)

  pub outside-filled : (p : Position) → (cell_in cells p.balance ≡ 0 → ⊥)
      → months_outside cells p ≡ not (within_row p.row (cell_in cells p.months))
  unfolding months_outside
  outside-filled p h = simp (ne_eqb (cell_in cells p.balance) 0 h)

  -- 8 compares a cell with its column's sum, the m-th of the three counted from 0
  pub above-sum : (m n : ℕ) → m < 3 → ltb (get_or (sums_before cells 9) m 0) (cell_in cells n) ≡ above_column cells (m + 1) n
  unfolding above_column
  above-sum m n h = rw (sum-before cells 9 m (m + 1) refl h, column-sum cells (m + 1) (omega arith) (omega arith))

  -- 7 at the i-th position, and 8 at the i-th of the six balances of columns, over columns 1 to 3 twice
  abbrev pub months_at : ℕ → Verdict
  months_at i = position_verdict cells (position_at i)

  abbrev pub columns_at : ℕ → Verdict
  columns_at i = column_verdict cells (i % 3 + 1) (i + first_column_cell)

  -- 7 is the first of nine, 8 the first of six
  pub months-in-turn : months_verdict cells ≡ first_of (table 9 months_at)
  unfolding months_verdict table_from position positions position_at
  months-in-turn = refl

  pub columns-in-turn : columns_verdict cells ≡ first_of (table 6 columns_at)
  unfolding columns_verdict table_from brokered_cell penalty_balance_cell
  columns-in-turn = refl
