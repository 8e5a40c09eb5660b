-- Laws of a row's four sub-balances from its column's figures: what the lists of a column's shares have at the row is what the row's balance, the
-- sum of the rows above it and the column's sum give. Assumes nothing.
use Prim.Native.Nat.{ℕ, ◌+◌, ◌-◌, ◌≤◌, ◌<◌}
use mathlib.Core.List.{List}
use mathlib.Core.Path.{◌≡◌, sym}
use native.Mathlib.Omega.{arith}
use lib.ListN.{length, get_or, take}
use Rattle.lists.specs.Sums.{sum, sum_where}
use Rattle.lists.specs.Tables.{those}
use Rattle.lists.proofs.EachLaws.{each-lt}
use Rattle.lists.proofs.SumLaws.{sum-take-suc, sum-take-le}
use Rattle.form.specs.declared.Position.{Position}
use Rattle.form.specs.Cells.{position, positions, position_at, in_column, brokered_cell}
use Rattle.filing_cells.specs.Balances.{cell_in, column_balances}
use Rattle.filing_cells.specs.ValidCells.{ValidCells}
use Rattle.filing_cells.specs.Inner.Sums.{column_sum}
use Rattle.filing_cells.proofs.SumLaws.{column-range, column-sum, column-limit}
use Rattle.shares.specs.declared.apportion.Row.{Row}
use Rattle.shares.specs.Apportion.{share_behind}
use Rattle.shares.specs.SubBalances.{brokered_shares, penalty_shares, brokered_in, retail_in, retail_penalized, brokered_penalized, four_of}
use Rattle.shares.specs.Inner.ShareRows.{RowWithin, account_shares, row_shares}
use Rattle.shares.specs.Inner.Rows.{row_at}
use Rattle.shares.proofs.ApportionLaws.{apportion-get_or}
use Rattle.shares.proofs.PartLaws.{parts-sum, parts-above, parts-through-retail, retail-part, brokered-part}
use Rattle.shares.proofs.SubBalanceLaws.{brokered-le, brokered-length, row-balance}

-- the sum over the positions before one is that of the rows above it
sum-above : (cells : List ℕ) (i : ℕ) → i < 9
    → column_sum cells (position_at i).column i ≡ sum (take ((position_at i).row - 1) (column_balances cells (position_at i).column))
unfolding column_sum sum_where sum column_balances position_at positions position in_column those
sum-above cells =
    each-lt 9 (λ i. column_sum cells (position_at i).column i ≡ sum (take ((position_at i).row - 1) (column_balances cells (position_at i).column)))
    (omega arith, (omega arith, (omega arith, (omega arith, (omega arith, (omega arith, (omega arith, (omega arith, (omega arith, tt)))))))))

-- a position of valid cells, its row, and its column's balances with their brokered shares
module _ (cells : List ℕ) (v : ValidCells cells) (i : ℕ) (h : i < 9) where
  abbrev p : Position
  p = position_at i

  abbrev row : Row
  row = row_at cells i

  abbrev bs : List ℕ
  bs = column_balances cells p.column

  abbrev ks : List ℕ
  ks = brokered_shares cells p.column

  range : (1 ≤ p.column) × (p.column ≤ 3)
  range = column-range i h

  within : cell_in cells (brokered_cell p.column) ≤ sum bs
  within = v.brokered-within p.column range.0 range.1

  same : length ks ≡ length bs
  same = brokered-length cells p.column within

  below : (m : ℕ) → get_or ks m 0 ≤ get_or bs m 0
  below = brokered-le cells p.column within

  -- the figures of the row, from the column's balances
  total-is : row.total ≡ sum bs
  unfolding row_at
  total-is = column-sum cells p.column range.0 range.1

  above-is : row.above ≡ sum (take (p.row - 1) bs)
  unfolding row_at
  above-is = sum-above cells i h

  balance-is : row.balance ≡ get_or bs (p.row - 1) 0
  unfolding row_at
  balance-is = sym (row-balance cells i h)

  -- the row is within its column
  pub row_within : RowWithin row
  unfolding row_at
  row_within =
      record {
        in-column = omega (arith, total-is, above-is, balance-is, sum-take-suc bs (p.row - 1), sum-take-le bs (p.row - 1 + 1));
        column-limit = column-limit cells v.balance-limit p.column range.0 range.1;
        brokered-within = rw total-is within;
        penalized-within = rw total-is (v.penalized-within p.column range.0 range.1);
      }

  -- what the lists of the column's shares have at the row
  brokered_in-share : brokered_in cells p ≡ share_behind row.brokered row.total row.above row.balance
  unfolding brokered_in brokered_shares row_at
  brokered_in-share = rw (apportion-get_or, total-is, above-is, balance-is)

  retail_in-is : retail_in cells p ≡ get_or bs (p.row - 1) 0 - get_or ks (p.row - 1) 0
  unfolding retail_in brokered_in
  retail_in-is = rw (row-balance cells i h)

  retail_penalized-share : retail_penalized cells p ≡ share_behind row.penalized row.total row.above (retail_in cells p)
  unfolding retail_penalized penalty_shares row_at
  retail_penalized-share = rw (apportion-get_or, parts-sum bs ks same below, parts-above bs ks same below, retail-part bs ks same, retail_in-is, total-is, above-is)

  brokered_penalized-share : brokered_penalized cells p ≡ share_behind row.penalized row.total (row.above + retail_in cells p) (brokered_in cells p)
  unfolding brokered_penalized penalty_shares brokered_in row_at
  brokered_penalized-share =
      rw (apportion-get_or, parts-sum bs ks same below, parts-through-retail bs ks same below, brokered-part bs ks same, retail_in-is, total-is, above-is)

  -- the position's four sub-balances are those of its row
  pub four-row : row_shares row ≡ four_of cells p
  unfolding four_of row_shares account_shares retail_in row_at
  four-row = sym (rw (retail_penalized-share, brokered_penalized-share, brokered_in-share))
