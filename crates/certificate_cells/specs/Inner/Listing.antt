-- The size of some sums, what they fill a cell with, and the answer with their cells. Definitions only.
use Rattle.std.specs.Prelude.{ℕ, ◌*◌, ◌≤◌, ◌≡◌, Bool, cond, ◌&&◌, Option, None, Some, length, get_or}
use Rattle.certificate_cells.specs.declared.filled_cells.Totals.{Totals}
use Rattle.certificate_cells.specs.declared.filled_cells.Cells.{Cells}
use Rattle.certificate_cells.specs.Cells.{is_filled, form_cell, is_present, value_of, cells_of, cell_array}
use Rattle.form.specs.Limits.{balance_limit, filed_coupon_limit, months_limit}

-- nine sums of balances, each within the limit of a balance, and each weighted sum within so many times it
pub record Bounded (t : Totals) : Type 0 where
  pub nine : length t.balance ≡ 9
  pub balance-le : (i : ℕ) → get_or t.balance i 0 ≤ balance_limit
  pub coupon-le : (i : ℕ) → get_or t.coupon i 0 ≤ filed_coupon_limit * get_or t.balance i 0
  pub months-le : (i : ℕ) → get_or t.months i 0 ≤ months_limit * get_or t.balance i 0

-- a cell is handed back: certificates can fill it, and it is present
abbrev pub listed : Totals → ℕ → Bool
listed t cell = is_filled cell && is_present t (form_cell cell)

-- what a cell is handed back with
unfoldable pub value_filled : Totals → ℕ → Option ℕ
value_filled t cell = cond (listed t cell) (Some (value_of t (form_cell cell))) None

-- how many cells some sums have, and these cells
unfoldable pub accepted_cells : Totals → Cells
accepted_cells t = record { count = length (cells_of t); cells = cell_array (cells_of t) }
