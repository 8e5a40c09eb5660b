-- The sums of the columns' balances: one position more, the sum of a whole column, and its limit.
-- Assumes nothing.
use Prim.Native.Nat.{ℕ, zero, suc, ◌+◌, ◌*◌, ◌-◌, ◌≤◌, ◌<◌, zero-le}
use native.Mathlib.Nat.{not-suc-le-zero}
use native.Mathlib.Numerals.{add-one}
use native.Mathlib.Omega.{arith}
use mathlib.Core.Path.{◌≡◌, refl, ap, ◌∙◌}
use mathlib.Core.List.{List}
use borrow.Author.Tests.{eq-eqb, ne_eqb}
use lib.Dec.{lit<, eqb}
use lib.ListN.{get_or, set}
use Rattle.lists.specs.Sums.{sum, sum_where}
use Rattle.lists.specs.Tables.{table_from, those}
use Rattle.lists.proofs.EachLaws.{each-lt}
use Rattle.lists.proofs.TableLaws.{table_from-get_or, table-get_or, table-set, table-le}
use Rattle.lists.proofs.TestLaws.{either}
use Rattle.form.specs.Cells.{position, positions, position_at, in_column}
use Rattle.form.specs.Limits.{balance_limit, column_limit}
use Rattle.filing_cells.specs.Balances.{cell_in, column_balances, balances}
use Rattle.filing_cells.specs.Inner.Sums.{BalancesWithin, column_sum, column_sums}

-- what holds of columns 1, 2 and 3 holds of each column
pub by-column : (P : ℕ → Type 0) → P 1 → P 2 → P 3 → (j : ℕ) → 1 ≤ j → j ≤ 3 → P j
by-column P a b c zero l u = absurd (not-suc-le-zero l)
by-column P a b c (suc zero) l u = a
by-column P a b c (suc (suc zero)) l u = b
by-column P a b c (suc (suc (suc zero))) l u = c
by-column P a b c (suc (suc (suc (suc n)))) l u = absurd (omega arith)

-- the columns of the nine positions are 1 to 3
pub column-range : (i : ℕ) → i < 9 → (1 ≤ (position_at i).column) × ((position_at i).column ≤ 3)
unfolding position_at positions position
column-range =
    each-lt 9 (λ i. (1 ≤ (position_at i).column) × ((position_at i).column ≤ 3))
    (omega arith, (omega arith, (omega arith, (omega arith, (omega arith, (omega arith, (omega arith, (omega arith, (omega arith, tt)))))))))

module _ (cells : List ℕ) where
  -- the sums of columns 1 to 3 at the positions before the i-th
  unfoldable pub sums_before : ℕ → List ℕ
  sums_before i = table_from 1 3 (λ (column : ℕ). column_sum cells column i)

  -- what stands above a position in its column
  abbrev pub above_at : ℕ → ℕ
  above_at i = column_sum cells (position_at i).column i

  -- the sum of column j, the m-th of the three counted from 0
  pub sum-before : (i m j : ℕ) → j ≡ m + 1 → m < 3 → get_or (sums_before i) m 0 ≡ column_sum cells j i
  unfolding sums_before
  sum-before i m j e h =
      let index : 1 + m ≡ j = omega arith in
      table_from-get_or 1 3 (λ (n : ℕ). column_sum cells n i) m 0 h ∙ ap (λ (n : ℕ). column_sum cells n i) index

  -- the sum of a position's column
  pub sum-at : (end i column : ℕ) → i < 9 → column ≡ (position_at i).column → get_or (sums_before end) (column - 1) 0 ≡ column_sum cells (position_at i).column end
  sum-at end i column h e =
      let range = column-range i h in
      sum-before end (column - 1) (position_at i).column (omega arith) (omega arith)

  -- a position of the column adds its balance to the column's sum, another position nothing
  column_sum-in : (column i : ℕ) → (position_at i).column ≡ column
      → column_sum cells column i + cell_in cells (position_at i).balance ≡ column_sum cells column (i + 1)
  unfolding column_sum sum_where
  column_sum-in column i h = rw (add-one, eq-eqb (position_at i).column column h)

  column_sum-out : (column i : ℕ) → ((position_at i).column ≡ column → ⊥) → column_sum cells column i ≡ column_sum cells column (i + 1)
  unfolding column_sum sum_where
  column_sum-out column i h = rw (add-one, ne_eqb (position_at i).column column h) (omega arith)

  -- a position's balance is added to its column's sum
  pub balance-added : (i column : ℕ) → i < 9 → column ≡ (position_at i).column
      → set (sums_before i) (column - 1) (get_or (sums_before i) (column - 1) 0 + cell_in cells (position_at i).balance) ≡ sums_before (i + 1)
  unfolding sums_before
  balance-added i column h e =
      let range = column-range i h in
      let at : 1 + (column - 1) ≡ (position_at i).column = omega arith in
      table-set 1 3 _ _ (column - 1) _ (omega arith)
      (rw at (ap (λ (n : ℕ). n + cell_in cells (position_at i).balance) (sum-at i i column h e) ∙ column_sum-in (position_at i).column i refl))
      (λ m other. column_sum-out m i (λ q. other (at ∙ q)))

  -- the parts of the sums
  pub totals-are : (column_sums cells).totals ≡ sums_before 9
  unfolding column_sums sums_before
  totals-are = refl

  pub above_at_lem : (i : ℕ) → i < 9 → get_or (column_sums cells).above i 0 ≡ above_at i
  unfolding column_sums
  above_at_lem i h = table-get_or 9 above_at i 0 h

  -- over all nine positions a column's sum is that of its balances, and the three columns have all of them
  pub column-sum : (j : ℕ) → 1 ≤ j → j ≤ 3 → column_sum cells j 9 ≡ sum (column_balances cells j)
  unfolding column_sum sum_where sum column_balances position_at positions position in_column those
  column-sum = by-column (λ (j : ℕ). column_sum cells j 9 ≡ sum (column_balances cells j)) (omega arith) (omega arith) (omega arith)

  pub balances-sum : get_or (sums_before 9) 0 0 + get_or (sums_before 9) 1 0 + get_or (sums_before 9) 2 0 ≡ sum (balances cells)
  unfolding sums_before table_from column_sum sum_where sum balances position_at positions position
  balances-sum = omega arith

  module _ (within : BalancesWithin cells) where
    -- a column has at most four balances
    pub column-limit : (j : ℕ) → 1 ≤ j → j ≤ 3 → column_sum cells j 9 ≤ column_limit
    unfolding column_sum sum_where position_at positions position
    column-limit =
        by-column (λ (j : ℕ). column_sum cells j 9 ≤ column_limit) (omega (arith, within 0 (lit< tt), within 3 (lit< tt)))
        (omega (arith, within 1 (lit< tt), within 4 (lit< tt), within 6 (lit< tt)))
        (omega (arith, within 2 (lit< tt), within 5 (lit< tt), within 7 (lit< tt), within 8 (lit< tt)))

    column_sum-limit : (column i : ℕ) → i ≤ 9 → column_sum cells column i ≤ balance_limit * i
    unfolding column_sum sum_where
    column_sum-limit column zero h = omega arith
    column_sum-limit column (suc i) h =
        omega (arith, column_sum-limit column i (omega arith), either (λ (n : ℕ). n ≤ balance_limit) (eqb (position_at i).column column) (within i (omega arith)) zero-le)

    -- the sums over the first positions
    pub sums-limit : (i m : ℕ) → i ≤ 9 → get_or (sums_before i) m 0 ≤ balance_limit * i
    unfolding sums_before
    sums-limit i m h = table-le 1 3 (λ (j : ℕ). column_sum cells j i) (balance_limit * i) (λ j l u. column_sum-limit j i h) m
