-- The thirty-six places of a split filing (01:45). Definitions only.
use Rattle.std.specs.Prelude.{ℕ, List}
use Rattle.lists.specs.Tables.{table}
use Rattle.form.specs.declared.sub_balances.SubBalance.{SubBalance}
use Rattle.form.specs.Places.{no_values}
use Rattle.form.specs.PlaceOrder.{sub_balance_count}
use Rattle.shares.specs.SubBalances.{balance_at, coupon_at, months_at, penalty_at}

-- what a place holds: its balance, its cell's coupon and its cell's remaining months, its penalty, and no values
unfoldable pub place_at : List ℕ → ℕ → SubBalance
place_at cells place =
    record {
      balance = balance_at cells place;
      coupon = coupon_at cells place;
      remaining_months = months_at cells place;
      penalty = penalty_at cells place;
      values = no_values;
    }

-- the thirty-six places, nine cells ascending and four for each
unfoldable pub places_of : List ℕ → List SubBalance
places_of cells = table sub_balance_count (place_at cells)
