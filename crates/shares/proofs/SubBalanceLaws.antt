-- Laws of the thirty-six sub-balances of a filing (01:44-45): a column's shares add up and none exceeds its row or part, a position's four add up
-- to its balance, and all thirty-six to the filing's total. Assumes nothing.
use Prim.Native.Nat.{ℕ, ◌+◌, ◌*◌, ◌-◌, ◌/◌, ◌%◌, ◌≤◌, ◌<◌}
use mathlib.Core.Path.{◌≡◌, refl, sym, ◌∙◌}
use mathlib.Core.List.{List}
use native.Mathlib.Nat.{le_trans}
use native.Mathlib.Omega.{arith}
use lib.ListN.{length, get_or}
use Rattle.lists.specs.Sums.{sum, sum_where, everywhere}
use Rattle.lists.specs.Tables.{those}
use Rattle.lists.proofs.EachLaws.{each-lt}
use Rattle.lists.proofs.SumLaws.{sum-get_or-le, sum_where-ext}
use Rattle.form.specs.declared.Position.{Position}
use Rattle.form.specs.Cells.{position, positions, position_at, in_column, brokered_cell, penalty_balance_cell, total_cell}
use Rattle.form.specs.Limits.{balance_limit}
use Rattle.filing_cells.specs.Balances.{cell_in, column_balances, balances}
use Rattle.filing_cells.specs.ValidCells.{ValidCells}
use Rattle.filing_cells.proofs.SumLaws.{column-range}
use Rattle.form.specs.PlaceOrder.{position_of, sub_balance_count}
use Rattle.shares.specs.SubBalances.{brokered_shares, account_parts, penalty_shares, brokered_in, retail_in, retail_penalized, brokered_penalized, four_of, balance_at}
use Rattle.shares.proofs.ApportionLaws.{apportion-sum, apportion-le, apportion-length}
use Rattle.shares.proofs.PartLaws.{parts-sum, retail-part, brokered-part}

-- a column whose brokered balance is within its sum
module _ (cells : List ℕ) (j : ℕ) (within : cell_in cells (brokered_cell j) ≤ sum (column_balances cells j)) where
  -- a column's brokered shares add up to its brokered balance
  brokered-sum : sum (brokered_shares cells j) ≡ cell_in cells (brokered_cell j)
  unfolding brokered_shares
  brokered-sum = apportion-sum (cell_in cells (brokered_cell j)) (column_balances cells j) within

  -- no brokered share exceeds its row's balance
  pub brokered-le : (i : ℕ) → get_or (brokered_shares cells j) i 0 ≤ get_or (column_balances cells j) i 0
  unfolding brokered_shares
  brokered-le = apportion-le (cell_in cells (brokered_cell j)) (column_balances cells j) within

  -- there is a brokered share for each row
  pub brokered-length : length (brokered_shares cells j) ≡ length (column_balances cells j)
  unfolding brokered_shares
  brokered-length = apportion-length (cell_in cells (brokered_cell j)) (column_balances cells j)

  -- and its balance subject to penalty too
  module _ (penalized : cell_in cells (penalty_balance_cell j) ≤ sum (column_balances cells j)) where
    -- the balance subject to penalty is at most the sum of the column's parts
    penalty-within : cell_in cells (penalty_balance_cell j) ≤ sum (account_parts (column_balances cells j) (brokered_shares cells j))
    penalty-within = rw (parts-sum (column_balances cells j) (brokered_shares cells j) brokered-length brokered-le) penalized

    -- a column's penalty shares add up to its balance subject to penalty
    penalty-sum : sum (penalty_shares cells j) ≡ cell_in cells (penalty_balance_cell j)
    unfolding penalty_shares
    penalty-sum = apportion-sum _ _ penalty-within

    -- no penalty share exceeds its part
    pub penalty-le : (i : ℕ) → get_or (penalty_shares cells j) i 0 ≤ get_or (account_parts (column_balances cells j) (brokered_shares cells j)) i 0
    unfolding penalty_shares
    penalty-le = apportion-le _ _ penalty-within

    -- the two parts of row i, counted from 0: its retail and its brokered balance
    retail-penalty-le : (i : ℕ) → get_or (penalty_shares cells j) (2 * i) 0 ≤ get_or (column_balances cells j) i 0 - get_or (brokered_shares cells j) i 0
    retail-penalty-le i = rw (← retail-part (column_balances cells j) (brokered_shares cells j) brokered-length i) (penalty-le (2 * i))

    brokered-penalty-le : (i : ℕ) → get_or (penalty_shares cells j) (2 * i + 1) 0 ≤ get_or (brokered_shares cells j) i 0
    brokered-penalty-le i = rw (← brokered-part (column_balances cells j) (brokered_shares cells j) brokered-length i) (penalty-le (2 * i + 1))

-- a position's balance stands in its column at its row
pub row-balance : (cells : List ℕ) (i : ℕ) → i < 9 → get_or (column_balances cells (position_at i).column) ((position_at i).row - 1) 0 ≡ cell_in cells (position_at i).balance
unfolding column_balances position_at positions position in_column those
row-balance cells =
    each-lt 9 (λ i. get_or (column_balances cells (position_at i).column) ((position_at i).row - 1) 0 ≡ cell_in cells (position_at i).balance)
    (refl, (refl, (refl, (refl, (refl, (refl, (refl, (refl, (refl, tt)))))))))

-- a position of a column, whose balance stands in the column at its row
module _ (cells : List ℕ) (p : Position)
    (in_row : get_or (column_balances cells p.column) (p.row - 1) 0 ≡ cell_in cells p.balance)
    (within : cell_in cells (brokered_cell p.column) ≤ sum (column_balances cells p.column))
    (penalized : cell_in cells (penalty_balance_cell p.column) ≤ sum (column_balances cells p.column)) where
  brokered_in-le : brokered_in cells p ≤ cell_in cells p.balance
  unfolding brokered_in
  brokered_in-le = rw (← in_row) (brokered-le cells p.column within (p.row - 1))

  retail_penalized-le : retail_penalized cells p ≤ retail_in cells p
  unfolding retail_penalized retail_in brokered_in
  retail_penalized-le = omega (arith, in_row, retail-penalty-le cells p.column within penalized (p.row - 1))

  brokered_penalized-le : brokered_penalized cells p ≤ brokered_in cells p
  unfolding brokered_penalized brokered_in
  brokered_penalized-le = brokered-penalty-le cells p.column within penalized (p.row - 1)

  retail_in-sum : retail_in cells p + brokered_in cells p ≡ cell_in cells p.balance
  unfolding retail_in
  retail_in-sum = omega (arith, brokered_in-le)

  position-sum : sum (four_of cells p) ≡ cell_in cells p.balance
  unfolding four_of sum
  position-sum = omega (arith, retail_in-sum, retail_penalized-le, brokered_penalized-le)

-- the places are four for each position
places-sum : (cells : List ℕ) → sum_where everywhere (balance_at cells) sub_balance_count ≡ sum_where everywhere (λ i. sum (four_of cells (position_at i))) 9
unfolding sum_where balance_at position_of four_of sum
places-sum cells = omega arith

positions-sum : (cells : List ℕ) → sum_where everywhere (λ i. cell_in cells (position_at i).balance) 9 ≡ sum (balances cells)
unfolding sum_where balances position_at positions position sum
positions-sum cells = omega arith

-- cells whose brokered and penalty balances are within their columns' sums
module _ (cells : List ℕ)
    (within : (j : ℕ) → 1 ≤ j → j ≤ 3 → cell_in cells (brokered_cell j) ≤ sum (column_balances cells j))
    (penalized : (j : ℕ) → 1 ≤ j → j ≤ 3 → cell_in cells (penalty_balance_cell j) ≤ sum (column_balances cells j)) where
  -- a position's four sub-balances add up to its balance
  pub four-sum : (i : ℕ) → i < 9 → sum (four_of cells (position_at i)) ≡ cell_in cells (position_at i).balance
  four-sum i h =
      position-sum cells (position_at i) (row-balance cells i h) (within _ (column-range i h).0 (column-range i h).1)
      (penalized _ (column-range i h).0 (column-range i h).1)

  -- no sub-balance exceeds its position's balance
  pub balance_at-le : (place : ℕ) → place < sub_balance_count → balance_at cells place ≤ cell_in cells (position_of place).balance
  unfolding balance_at position_of
  balance_at-le place h =
      rw (← four-sum (place / 4) (omega arith)) (sum-get_or-le (four_of cells (position_at (place / 4))) (place % 4))

  -- the thirty-six sub-balances add up to the nine balances: they are four for each position
  pub balance_at-sum : sum_where everywhere (balance_at cells) sub_balance_count ≡ sum (balances cells)
  balance_at-sum = places-sum cells ∙ sum_where-ext everywhere _ _ 9 four-sum ∙ positions-sum cells

-- of an accepted filing the thirty-six sub-balances add up to its total
pub balance_at-total : (cells : List ℕ) → ValidCells cells → sum_where everywhere (balance_at cells) sub_balance_count ≡ cell_in cells total_cell
balance_at-total cells v = balance_at-sum cells v.brokered-within v.penalized-within ∙ sym v.total-is-sum

-- of an accepted filing each sub-balance is within a balance's limit
pub balance_at-limit : (cells : List ℕ) → ValidCells cells → (place : ℕ) → place < sub_balance_count → balance_at cells place ≤ balance_limit
unfolding position_of
balance_at-limit cells v place h =
    le_trans (balance_at-le cells v.brokered-within v.penalized-within place h) (v.balance-limit (place / 4) (omega arith))
