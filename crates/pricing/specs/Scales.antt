-- Scales and limits of the run (01:24, 01:55-60; 02:CR 4). Definitions only.
use Rattle.std.specs.Prelude.{ℕ, ◌*◌, ◌^◌}
use Rattle.form.specs.Limits.{coupon_limit}

-- B_0 (01:55), and the scale of balances, flows, survivals, discount factors and prices: billionths
abbrev pub par : ℕ
par = 10 ^ 9

-- the growth of a coupon of one thousandth of a percent a year (01:56; 02:CR 4), in units of 1 / (3 × 10^9) of the balance
abbrev pub coupon_growth : ℕ
coupon_growth = 2500

-- the scale of a yield as a month's rate (01:58)
abbrev pub rate_scale : ℕ
rate_scale = 120000

-- from thousands of dollars at a price in billionths to dollars (01:58)
abbrev pub value_scale : ℕ
value_scale = 10 ^ 6

-- the growth of the highest coupon, and the highest servicing cost, retail's (01:55)
abbrev pub growth_limit : ℕ
growth_limit = coupon_growth * coupon_limit

abbrev pub servicing_limit : ℕ
servicing_limit = 175000

-- no balance, and no sum of flows, of terms within the limits is above it, billionths
abbrev pub amount_limit : ℕ
amount_limit = 4533261346
