-- `cell_class` meets its contract: no cell outside the table is listed, and the digits are those that the definition makes, tested once over all cells and
-- carried to each. Assumes nothing.
use Prim.Native.Nat.{ℕ, ◌+◌, ◌*◌, ◌-◌, ◌/◌, ◌%◌, ◌^◌, ◌<◌, zero-le}
use native.Mathlib.Omega.{arith}
use mathlib.Core.Logic.{inl, inr}
use mathlib.Core.Path.{◌≡◌, sym, ap, ◌∙◌}
use lib.Dec.{eqb, eqb→eq}
use Rattle.lists.specs.Tables.{table_from, contains}
use Rattle.lists.proofs.TestLaws.{all_from, all-at}
use Rattle.form.specs.Cells.{position, positions, brokered_cell, penalty_balance_cell, penalty_months_cell, unused_cells, first_cell, cell_count}
use Rattle.form.specs.Borrowings.{borrowing, borrowing_at, coupon_cell, term_cell}
use Rattle.form.specs.Classes.{cell_class}
use Rattle.form.specs.Inner.Classes.{hexadecimal, sixteen_classes}
use Rattle.form.proofs.ClassLaws.{class-outside}
use Rattle.form.proofs.tables.cell_class.Goals as goal

-- the digit of the i-th cell from the first on
abbrev digit : ℕ → ℕ
digit i = sixteen_classes (i / 16) / 2 ^ (4 * (i % 16)) % 16

digits_are : (i : ℕ) → i < cell_count → digit i ≡ cell_class (first_cell + i)
unfolding all_from sixteen_classes hexadecimal table_from cell_class contains positions position brokered_cell penalty_balance_cell penalty_months_cell unused_cells borrowing borrowing_at coupon_cell term_cell
digits_are i h = eqb→eq _ _ (all-at 0 cell_count (λ (j : ℕ). eqb (digit j) (cell_class (first_cell + j))) tt i zero-le h)

pub returns-then-cell-lt-FIRST_CELL : goal.returns-then-cell-lt-FIRST_CELL
returns-then-cell-lt-FIRST_CELL c = sym (class-outside c.args.cell (inl c.if-cell-lt-FIRST_CELL.true))

pub returns-then-cell-gt-LAST_CELL : goal.returns-then-cell-gt-LAST_CELL
returns-then-cell-gt-LAST_CELL c = sym (class-outside c.args.cell (inr c.if-cell-gt-LAST_CELL.true))

pub returns : goal.returns
returns c = let n = c.args.cell in
    let e : first_cell + (n - first_cell) ≡ n = omega arith in
    ap (λ (x : ℕ). x / 2 ^ (4 * ((n - first_cell) % 16)) % 16) c.sixteen_classes.ensures ∙ digits_are (n - first_cell) (omega arith) ∙ ap cell_class e
