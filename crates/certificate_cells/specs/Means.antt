-- The balance of a position and the means of its coupons and remaining months (02:CR 5). Definitions only.
use Rattle.std.specs.Prelude.{ℕ, ◌+◌, ◌*◌, ◌/◌, get_or}
use Rattle.certificate_cells.specs.declared.filled_cells.Totals.{Totals}

-- the quotient of a weighted sum by the sum of the weights, to the nearest whole number, halves up: the floor of weighted / weight + 1 / 2. A cell
-- without a weight is absent; a quotient by 0 is 0
unfoldable pub mean : ℕ → ℕ → ℕ
mean weighted weight = (2 * weighted + weight) / (2 * weight)

-- the sum of a position's balances, thousands of dollars, the mean of its coupons, hundredths of a percent a year, and of its remaining months
unfoldable pub balance_at : Totals → ℕ → ℕ
balance_at t i = get_or t.balance i 0

unfoldable pub coupon_at : Totals → ℕ → ℕ
coupon_at t i = mean (get_or t.coupon i 0) (balance_at t i)

unfoldable pub months_at : Totals → ℕ → ℕ
months_at t i = mean (get_or t.months i 0) (balance_at t i)
