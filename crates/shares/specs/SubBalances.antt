-- The thirty-six sub-balances of a filing (01:44-45), thousands of dollars. Definitions only.
use Rattle.std.specs.Prelude.{ℕ, ◌+◌, ◌*◌, ◌-◌, ◌%◌, cond, List, [], ◌∷◌, get_or}
use Rattle.form.specs.declared.Position.{Position}
use Rattle.form.specs.Cells.{brokered_cell, penalty_balance_cell, penalty_months_cell}
use Rattle.form.specs.PlaceOrder.{position_of, with_penalty}
use Rattle.filing_cells.specs.Balances.{cell_in, column_balances}
use Rattle.shares.specs.Apportion.{apportion}

-- a column's brokered balance, split over its rows
unfoldable pub brokered_shares : List ℕ → ℕ → List ℕ
brokered_shares cells column = apportion (cell_in cells (brokered_cell column)) (column_balances cells column)

-- a column's parts: row 1 retail, row 1 brokered, row 2 retail and so on, from its balances and their brokered shares, one for each
unfoldable pub account_parts : List ℕ → List ℕ → List ℕ
account_parts [] ks = []
account_parts (b ∷ bs) [] = []
account_parts (b ∷ bs) (k ∷ ks) = (b - k) ∷ k ∷ account_parts bs ks

-- a column's balance subject to penalty, split over those parts
unfoldable pub penalty_shares : List ℕ → ℕ → List ℕ
penalty_shares cells column =
    apportion (cell_in cells (penalty_balance_cell column)) (account_parts (column_balances cells column) (brokered_shares cells column))

-- of a position: its brokered balance, and of its retail and its brokered balance what is subject to penalty
unfoldable pub brokered_in : List ℕ → Position → ℕ
brokered_in cells p = get_or (brokered_shares cells p.column) (p.row - 1) 0

unfoldable pub retail_in : List ℕ → Position → ℕ
retail_in cells p = cell_in cells p.balance - brokered_in cells p

unfoldable pub retail_penalized : List ℕ → Position → ℕ
retail_penalized cells p = get_or (penalty_shares cells p.column) (2 * (p.row - 1)) 0

unfoldable pub brokered_penalized : List ℕ → Position → ℕ
brokered_penalized cells p = get_or (penalty_shares cells p.column) (2 * (p.row - 1) + 1) 0

-- a position's four sub-balances: retail with penalty, retail without, brokered with, brokered without
unfoldable pub four_of : List ℕ → Position → List ℕ
four_of cells p =
    retail_penalized cells p
    ∷ (retail_in cells p - retail_penalized cells p)
    ∷ brokered_penalized cells p
    ∷ (brokered_in cells p - brokered_penalized cells p)
    ∷ []

-- the balance, and its cell's coupon (thousandths of a percent a year) and remaining months, at a place
unfoldable pub balance_at : List ℕ → ℕ → ℕ
balance_at cells place = get_or (four_of cells (position_of place)) (place % 4) 0

unfoldable pub coupon_at : List ℕ → ℕ → ℕ
coupon_at cells place = cell_in cells (position_of place).coupon

unfoldable pub months_at : List ℕ → ℕ → ℕ
months_at cells place = cell_in cells (position_of place).months

-- the penalty of a place, hundredths of a month: its column's, or 0 where the place is without penalty (01:49)
unfoldable pub penalty_at : List ℕ → ℕ → ℕ
penalty_at cells place = cond (with_penalty place) (cell_in cells (penalty_months_cell (position_of place).column)) 0
