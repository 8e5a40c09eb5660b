-- A row's four sub-balances (01:44-45) from its column's figures, thousands of dollars: what the list of a column's shares has at that row.
-- Definitions only.
use Rattle.std.specs.Prelude.{ℕ, ◌+◌, ◌-◌, ◌≤◌, List, [], ◌∷◌}
use Rattle.form.specs.Limits.{column_limit}
use Rattle.shares.specs.declared.apportion.Row.{Row}
use Rattle.shares.specs.Apportion.{share_behind}

-- a row lies within its column, the column within its limit, and the column's brokered and penalty balances within the column
pub record RowWithin (row : Row) : Type 0 where
  pub in-column : row.above + row.balance ≤ row.total
  pub column-limit : row.total ≤ column_limit
  pub brokered-within : row.brokered ≤ row.total
  pub penalized-within : row.penalized ≤ row.total

-- retail with penalty, retail without, brokered with, brokered without, of a row of whose balance `held` is brokered
unfoldable pub account_shares : Row → ℕ → List ℕ
account_shares row held =
    share_behind row.penalized row.total row.above (row.balance - held)
    ∷ (row.balance - held - share_behind row.penalized row.total row.above (row.balance - held))
    ∷ share_behind row.penalized row.total (row.above + (row.balance - held)) held
    ∷ (held - share_behind row.penalized row.total (row.above + (row.balance - held)) held)
    ∷ []

-- the four sub-balances of a row
unfoldable pub row_shares : Row → List ℕ
row_shares row = account_shares row (share_behind row.brokered row.total row.above row.balance)
