-- The whole-number run of a deposit (01:60), once over the rounding: down gives the lower figures, up the upper ones. Definitions only.
-- Balances, flows, discount factors and the price are in billionths. z t is the shifted CD yield of month t (01:49), hundredths of a percent a year.
use Rattle.std.specs.Prelude.{ℕ, zero, suc, ◌+◌, ◌*◌, ◌-◌, cond, eqb}
use Rattle.pricing.specs.Scales.{par, rate_scale, value_scale}
use Rattle.pricing.specs.Terms.{Terms}
use Rattle.pricing.specs.Rounding.{Rounding, quotient}

-- B_t, rounded once a month
unfoldable pub balance_by : Rounding → Terms → ℕ → ℕ
balance_by ρ k zero = par
balance_by ρ k (suc t) = quotient ρ (balance_by ρ k t * (k.growth + 3 * k.survival (suc t))) (3 * par)

-- servicing and early withdrawals of month t + 1, rounded once
unfoldable pub outflow_by : Rounding → Terms → ℕ → ℕ
outflow_by ρ k t = quotient ρ (balance_by ρ k t * (k.servicing + par - k.survival (suc t))) par

-- flow of month t + 1: in month T the balance, already rounded, is added
unfoldable pub flow_by : Rounding → Terms → ℕ → ℕ
flow_by ρ k t = outflow_by ρ k t + cond (eqb (suc t) k.months) (balance_by ρ k (suc t)) 0

-- a discount factor after n factors of the same yield, rounded after each
unfoldable pub discount_by : Rounding → ℕ → ℕ → ℕ
discount_by ρ z zero = par
discount_by ρ z (suc n) = quotient ρ (discount_by ρ z n * rate_scale) (rate_scale + z)

-- df of month t: month t's own yield in all of its t factors
unfoldable pub discount_factor_by : Rounding → (ℕ → ℕ) → ℕ → ℕ
discount_factor_by ρ z t = discount_by ρ (z t) t

-- the sum over months 1 to t of flow × df / 10^9, each product rounded, for any flows: flow t is that of month t + 1
unfoldable pub discounted_sum : Rounding → (ℕ → ℕ) → (ℕ → ℕ) → ℕ → ℕ
discounted_sum ρ flow df zero = 0
discounted_sum ρ flow df (suc t) = discounted_sum ρ flow df t + quotient ρ (flow t * df (suc t)) par

-- the same of a deposit's flows
abbrev pub discounted_by : Rounding → Terms → (ℕ → ℕ) → ℕ → ℕ
discounted_by ρ k = discounted_sum ρ (flow_by ρ k)

-- the price: all T months, by their discount factors
unfoldable pub price_by : Rounding → Terms → (ℕ → ℕ) → ℕ
price_by ρ k z = discounted_by ρ k (discount_factor_by ρ z) k.months

-- value in dollars of a balance in thousands of dollars at a price in billionths, rounded at the end
unfoldable pub worth_by : Rounding → ℕ → ℕ → ℕ
worth_by ρ balance price = quotient ρ (balance * price) value_scale

unfoldable pub value_by : Rounding → ℕ → Terms → (ℕ → ℕ) → ℕ
value_by ρ balance k z = worth_by ρ balance (price_by ρ k z)
