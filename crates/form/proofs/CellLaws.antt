-- The numbers and classes of the cells of the nine positions, of the columns and of the borrowings, each by one test over all of them.
-- Assumes nothing.
use Prim.Native.Nat.{ℕ, ◌+◌, ◌≤◌, ◌<◌}
use native.Mathlib.Omega.{arith}
use mathlib.Core.Path.{◌≡◌}
use mathlib.Core.Bool.{Bool, true, false, ◌&&◌}
use lib.Dec.{T, leb, eqb, leb→le, eqb→eq}
use Rattle.lists.specs.Tables.{contains, table_from}
use Rattle.lists.proofs.TestLaws.{all_from, all-at}
use Rattle.form.specs.Cells.{position, positions, position_at, brokered_cell, penalty_balance_cell, penalty_months_cell, unused_cells, first_cell, last_cell}
use Rattle.form.specs.Borrowings.{borrowing_count, borrowing, borrowing_at, coupon_cell, term_cell}
use Rattle.form.specs.Classes.{cell_class}

-- a cell lies from the first to the last, and is of a class
pub record CellOf (n class : ℕ) : Type 0 where
  pub from_first : first_cell ≤ n
  pub to_last : n ≤ last_cell
  pub in-class : cell_class n ≡ class

abbrev is_cell_of : ℕ → ℕ → Bool
is_cell_of n class = leb first_cell n && (leb n last_cell && eqb (cell_class n) class)

-- where the three tests pass together each gives its fact; where one fails their conjunction does not pass
cell-of-tests : (n class : ℕ) (a b c : Bool)
    → (T a → first_cell ≤ n)
    → (T b → n ≤ last_cell)
    → (T c → cell_class n ≡ class)
    → T (a && (b && c))
    → CellOf n class
cell-of-tests n class true true true f g h t = record { from_first = f tt; to_last = g tt; in-class = h tt }
cell-of-tests n class true true false f g h t = absurd t
cell-of-tests n class true false c f g h t = absurd t
cell-of-tests n class false b c f g h t = absurd t

-- cells that are numbered by f are of one class where the test passes at each number
cells_of : (f : ℕ → ℕ) (class i n : ℕ) → T (all_from i n (λ (m : ℕ). is_cell_of (f m) class)) → (j : ℕ) → i ≤ j → j < i + n → CellOf (f j) class
cells_of f class i n t j l u =
    cell-of-tests (f j) class (leb first_cell (f j)) (leb (f j) last_cell) (eqb (cell_class (f j)) class) (leb→le first_cell (f j)) (leb→le (f j) last_cell)
    (eqb→eq (cell_class (f j)) class) (all-at i n (λ (m : ℕ). is_cell_of (f m) class) t j l u)

-- the cells of the nine positions: balance, coupon and remaining months
pub balance-cell : (i : ℕ) → i < 9 → CellOf (position_at i).balance 1
unfolding all_from cell_class contains positions position_at position
balance-cell i h = cells_of (λ (m : ℕ). (position_at m).balance) 1 0 9 tt i (omega arith) (omega arith)

pub coupon-cell : (i : ℕ) → i < 9 → CellOf (position_at i).coupon 2
unfolding all_from cell_class contains positions position_at position
coupon-cell i h = cells_of (λ (m : ℕ). (position_at m).coupon) 2 0 9 tt i (omega arith) (omega arith)

pub months-cell : (i : ℕ) → i < 9 → CellOf (position_at i).months 3
unfolding all_from cell_class contains positions position_at position
months-cell i h = cells_of (λ (m : ℕ). (position_at m).months) 3 0 9 tt i (omega arith) (omega arith)

-- the penalty months of the three columns
pub penalty-months-cell : (j : ℕ) → 1 ≤ j → j ≤ 3 → CellOf (penalty_months_cell j) 5
unfolding all_from cell_class contains positions position brokered_cell penalty_balance_cell penalty_months_cell
penalty-months-cell j l u = cells_of penalty_months_cell 5 1 3 tt j l (omega arith)

-- the cells of the twenty-four borrowings, and their total
pub borrowing-balance-cell : (i : ℕ) → i < borrowing_count → CellOf (borrowing_at i).balance 8
unfolding all_from cell_class contains positions position brokered_cell penalty_balance_cell penalty_months_cell unused_cells borrowing borrowing_at coupon_cell term_cell table_from
borrowing-balance-cell i h = cells_of (λ (m : ℕ). (borrowing_at m).balance) 8 0 borrowing_count tt i (omega arith) (omega arith)

pub borrowing-coupon-cell : (i : ℕ) → i < borrowing_count → CellOf (borrowing_at i).coupon 9
unfolding all_from cell_class contains positions position brokered_cell penalty_balance_cell penalty_months_cell unused_cells borrowing borrowing_at coupon_cell term_cell table_from
borrowing-coupon-cell i h = cells_of (λ (m : ℕ). (borrowing_at m).coupon) 9 0 borrowing_count tt i (omega arith) (omega arith)

pub borrowing-months-cell : (i : ℕ) → i < borrowing_count → CellOf (borrowing_at i).months 10
unfolding all_from cell_class contains positions position brokered_cell penalty_balance_cell penalty_months_cell unused_cells borrowing borrowing_at coupon_cell term_cell table_from
borrowing-months-cell i h = cells_of (λ (m : ℕ). (borrowing_at m).months) 10 0 borrowing_count tt i (omega arith) (omega arith)
