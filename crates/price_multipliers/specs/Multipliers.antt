-- A month of the run before the term's end, its divisions as multiplications and divisions by 2^64. Definitions only.
use Rattle.std.specs.Prelude.{ℕ, zero, suc, ◌+◌, ◌*◌, ◌-◌, ◌/◌, ◌^◌, ◌≡◌, cond, eqb, leb}
use Rattle.pricing.specs.declared.Run.{Run}
use Rattle.pricing.specs.Scales.{par}
use Rattle.pricing.specs.Rounding.{Rounding, down, up, quotient}
use Rattle.price_multipliers.specs.declared.MonthMultipliers.{MonthMultipliers}

-- x m / s by a multiplier m that was rounded up; rounded up, 1 more than by one less
unfoldable pub part_by : Rounding → ℕ → ℕ → ℕ → ℕ
part_by down s x m = x * m / s
part_by up s zero m = 0
part_by up s (suc x) zero = 0
part_by up s (suc x) (suc m) = suc (suc x * m / s)

-- what an upper part is more than by one less: 1, or 0 where nothing is multiplied by
unfoldable pub carried_of : ℕ → ℕ
carried_of m = cond (eqb m 0) 0 1

-- what of a share in units of 1 / (3 × 10^9) is beyond the whole
unfoldable pub beyond : ℕ → ℕ
beyond n = cond (leb (3 * par) n) (n - 3 * par) n

-- n / 10^9 in units of 1 / 2^63, rounded up: the multiplier of a share in billionths, for twice what is multiplied
abbrev pub par_multiplier : ℕ → ℕ
par_multiplier n = quotient up (n * 2 ^ 63) par

-- the multipliers of a month, by its growth, servicing cost and survival
unfoldable pub multipliers_of : ℕ → ℕ → ℕ → MonthMultipliers
multipliers_of growth servicing q =
    record {
      paid = par_multiplier (servicing + par - q);
      left = quotient up (beyond (growth + 3 * q) * 2 ^ 64) (3 * par);
      carried = carried_of (quotient up (beyond (growth + 3 * q) * 2 ^ 64) (3 * par));
      whole = leb (3 * par) (growth + 3 * q);
    }

-- what a table holds of a discount factor, billionths: its multiplier; an upper table one less, as an upper part goes by one less
unfoldable pub discount_multiplier : Rounding → ℕ → ℕ
discount_multiplier down f = par_multiplier f
discount_multiplier up f = par_multiplier f - 1

-- the multiplier that a table's number stands for, and the discount factor of it
unfoldable pub stands_for : Rounding → ℕ → ℕ
stands_for down n = n
stands_for up n = suc n

unfoldable pub factor_of : Rounding → ℕ → ℕ
factor_of ρ n = stands_for ρ n * par / 2 ^ 63

-- a table's number stands for the multiplier of a discount factor; an upper table's 0 does not
abbrev pub Discounts : Rounding → ℕ → Type 0
Discounts ρ n = stands_for ρ n ≡ par_multiplier (factor_of ρ n)

-- what a month pays of a balance, and what it leaves, billionths
unfoldable pub paid_by : Rounding → MonthMultipliers → ℕ → ℕ
paid_by ρ m b = part_by ρ (2 ^ 64) (2 * b) m.paid

unfoldable pub left_by : Rounding → MonthMultipliers → ℕ → ℕ
left_by ρ m b = cond m.whole b 0 + part_by ρ (2 ^ 64) b m.left

-- a flow times a discount factor, by what a table holds of it
unfoldable pub product_by : Rounding → ℕ → ℕ → ℕ
product_by ρ n flow = part_by ρ (2 ^ 64) (2 * flow) (stands_for ρ n)

-- the run one month on
unfoldable pub step_by : Rounding → MonthMultipliers → ℕ → Run → Run
step_by ρ m n run = record { balance = left_by ρ m run.balance; price = run.price + product_by ρ n (paid_by ρ m run.balance) }

-- the price after the last month, in which what is left is paid
unfoldable pub last_by : Rounding → MonthMultipliers → ℕ → Run → ℕ
last_by ρ m n run = run.price + product_by ρ n (paid_by ρ m run.balance + left_by ρ m run.balance)

-- what a month pays of a balance within the limit, and what it leaves, is below it
abbrev pub month_limit : ℕ
month_limit = 9100000000
