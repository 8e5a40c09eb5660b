-- The limits of the form's values, by class of cell (01:22-24; 02:CR 4, CR 8), and of its sheets. Definitions only.
use Rattle.std.specs.Prelude.{ℕ, ◌^◌, ◌-◌, cond, List, [], ◌∷◌, get_or, eqb}

-- the limits of 01:24, inclusive: balance, brokered or penalty balance and total in thousands of dollars, yield and retail rate in hundredths of a
-- percent a year, WARM in months, penalty in hundredths of a month
abbrev pub balance_limit : ℕ
balance_limit = 999999999

abbrev pub column_limit : ℕ
column_limit = 3999999996

abbrev pub total_limit : ℕ
total_limit = 8999999991

-- the total of the borrowings (02:CR 8), thousands of dollars
abbrev pub borrowings_total_limit : ℕ
borrowings_total_limit = 23999999976

-- the coupon (WAC): as filed, in hundredths of a percent a year (01:24), and in what a filing says, in thousandths (02:CR 4)
abbrev pub filed_coupon_limit : ℕ
filed_coupon_limit = 1500

abbrev pub coupon_limit : ℕ
coupon_limit = 15000

abbrev pub months_limit : ℕ
months_limit = 120

abbrev pub penalty_limit : ℕ
penalty_limit = 3600

abbrev pub rate_limit : ℕ
rate_limit = 2500

-- the months of a sheet by month (01:8; 02:CR 8), also of each column of retail rates (02:CR 3), and how many of these rates there are
abbrev pub sheet_months : ℕ
sheet_months = 120

abbrev pub rate_count : ℕ
rate_count = 360

-- the numbers of all sheets stand in one list: where the CD yields begin, where the retail rates do and the LIBOR yields, and how many numbers there are
abbrev pub yields_start : ℕ
yields_start = 0

abbrev pub rates_start : ℕ
rates_start = 120

abbrev pub libor_start : ℕ
libor_start = 480

abbrev pub sheet_number_count : ℕ
sheet_number_count = 600

-- the most tiers of a filing, the largest edge, hundredths, and the largest annual withdrawal, thousandths (01:51; 02:CR 1)
abbrev pub tier_limit : ℕ
tier_limit = 16

abbrev pub edge_limit : ℕ
edge_limit = 65535

abbrev pub withdrawal_limit : ℕ
withdrawal_limit = 600

-- the class of a certificates' coupon (`Classes`)
abbrev pub coupon_class : ℕ
coupon_class = 2

-- the largest value of each class, as filed. An unused cell takes any 8-byte value
abbrev pub class_limits : List ℕ
class_limits =
    0
    ∷ balance_limit
    ∷ filed_coupon_limit
    ∷ months_limit
    ∷ column_limit
    ∷ penalty_limit
    ∷ total_limit
    ∷ (2 ^ 64 - 1)
    ∷ balance_limit
    ∷ filed_coupon_limit
    ∷ months_limit
    ∷ borrowings_total_limit
    ∷ []

unfoldable pub class_limit : ℕ → ℕ
class_limit class = get_or class_limits class 0

-- the largest value of a class in what a filing says: a certificates' coupon is in thousandths there
unfoldable pub held_limit : ℕ → ℕ
held_limit class = cond (eqb class coupon_class) coupon_limit (class_limit class)
