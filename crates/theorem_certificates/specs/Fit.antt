-- What holds of the cells that accepted certificates fill (02:CR 5), an absent cell being 0 (01:11). Definitions only.
use Rattle.std.specs.Prelude.{ℕ, ◌≤◌, ◌<◌, ◌≡◌, true, cond, List, [], ◌∷◌, map, eqb}
use Rattle.lists.specs.Sums.{sum}
use Rattle.form.specs.declared.Position.{Position}
use Rattle.form.specs.Cells.{positions, position_at, within_row, total_cell}
use Rattle.form.specs.Limits.{balance_limit, filed_coupon_limit, months_limit, total_limit}
use Rattle.certificate_cells.specs.declared.filled_cells.CellValue.{CellValue}

-- what a list of cells says of cell n
unfoldable pub value_in : List CellValue → ℕ → ℕ
value_in [] n = 0
value_in (c ∷ cs) n = cond (eqb c.cell n) c.value (value_in cs n)

-- the limits of 01:24, WARM within its row (01:37), the total the sum of the nine balances (01:39); i: one of the nine positions, 0 to 8
pub record Fit (cells : List CellValue) : Type 0 where
  pub balance-limit : (i : ℕ) → i < 9 → value_in cells (position_at i).balance ≤ balance_limit
  pub coupon-limit : (i : ℕ) → i < 9 → value_in cells (position_at i).coupon ≤ filed_coupon_limit
  pub months-limit : (i : ℕ) → i < 9 → value_in cells (position_at i).months ≤ months_limit
  pub months-in-row : (i : ℕ) → i < 9 → 0 < value_in cells (position_at i).balance
      → within_row (position_at i).row (value_in cells (position_at i).months) ≡ true
  pub total-limit : value_in cells total_cell ≤ total_limit
  pub total-is-sum : value_in cells total_cell ≡ sum (map (λ (p : Position). value_in cells p.balance) positions)
