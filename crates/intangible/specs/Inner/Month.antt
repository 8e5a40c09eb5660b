-- The run of the intangible as a state that moves month by month, and the sizes within which a month's products fit 64 bits. Definitions only.
use Rattle.std.specs.Prelude.{ℕ, ◌+◌, ◌*◌, ◌-◌, ◌≤◌}
use Rattle.intangible.specs.declared.Rolled.{Rolled}
use Rattle.pricing.specs.Scales.{par, coupon_growth}
use Rattle.pricing.specs.Rounding.{Rounding, quotient}
use Rattle.intangible.specs.RollingTerms.{RollingTerms, share_scale}
use Rattle.intangible.specs.Run.{opening_by, sum_by}
use Rattle.intangible.specs.Bounded.{rolled_coupon_limit, rolled_limit}

-- the run after t months, with discount factors df: what month t + 1 opens with and the discounted flows after T, millionths
unfoldable pub rolled_at : Rounding → RollingTerms → (ℕ → ℕ) → ℕ → Rolled
rolled_at ρ k df t = record { balance = opening_by ρ k t; sum = sum_by ρ k df t }

-- the balance at the end of a month, its outflow, a part of a balance, and a flow discounted
unfoldable pub closing_by : Rounding → ℕ → ℕ → ℕ → ℕ
closing_by ρ growth q opening = quotient ρ (opening * (growth + 3 * q)) (3 * par)

unfoldable pub leaving_by : Rounding → ℕ → ℕ → ℕ → ℕ
leaving_by ρ servicing q opening = quotient ρ (opening * (servicing + par - q)) par

unfoldable pub part_by : Rounding → ℕ → ℕ → ℕ
part_by ρ part balance = quotient ρ (balance * part) share_scale

unfoldable pub product_by : Rounding → ℕ → ℕ → ℕ
product_by ρ df flow = quotient ρ (flow * df) par

-- a month before the last of its term, with survival q and discount factor df
unfoldable pub early_month : Rounding → ℕ → ℕ → ℕ → ℕ → Rolled → Rolled
early_month ρ growth servicing q df x =
    record { balance = closing_by ρ growth q x.balance; sum = x.sum + product_by ρ df (leaving_by ρ servicing q x.balance) }

-- the last month of a term: what does not roll over is paid, what does opens the next month
unfoldable pub rolling_month : Rounding → ℕ → ℕ → ℕ → ℕ → Rolled → Rolled
rolling_month ρ growth servicing share df x =
    record {
      balance = part_by ρ share (closing_by ρ growth par x.balance);
      sum = x.sum + product_by ρ df (leaving_by ρ servicing par x.balance + part_by ρ (share_scale - share) (closing_by ρ growth par x.balance));
    }

-- the sum after the month at the horizon, in which what remains is paid
unfoldable pub last_sum : Rounding → ℕ → ℕ → ℕ → Rolled → ℕ
last_sum ρ growth servicing df x = x.sum + product_by ρ df (leaving_by ρ servicing par x.balance + closing_by ρ growth par x.balance)

-- what every month of terms within the limits has
pub record Small (x : Rolled) (growth df : ℕ) : Type 0 where
  pub balance-le : x.balance ≤ rolled_limit
  pub sum-le : x.sum ≤ rolled_limit
  pub growth-le : growth ≤ coupon_growth * rolled_coupon_limit
  pub factor-le : df ≤ par

-- a balance or an outflow of such a month is below it
abbrev pub figure_limit : ℕ
figure_limit = 4400000000
