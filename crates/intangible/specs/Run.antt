-- The whole-number run of the intangible (02:CR 9), once over the rounding: down gives the lower figures, up the upper ones. Definitions only.
-- Balances, flows and results are in millionths of the opening balance, discount factors in billionths: df t is that of month t.
use Rattle.std.specs.Prelude.{ℕ, zero, suc, ◌+◌, ◌*◌, ◌-◌, cond, eqb, ltb, ℤ, pos, ◌-ℤ◌}
use Rattle.pricing.specs.Scales.{par}
use Rattle.pricing.specs.Rounding.{Rounding, down, up, quotient}
use Rattle.pricing.specs.Run.{discount_factor_by, discounted_sum}
use Rattle.intangible.specs.RollingTerms.{RollingTerms, first_balance, share_scale}
use Rattle.intangible.specs.RolledMonths.{ends_term, month_survival, month_growth}

-- what the month after t opens with, from the balance at the end of month t, rounded where it is split
unfoldable pub opened_by : Rounding → RollingTerms → ℕ → ℕ → ℕ
opened_by ρ k t balance = cond (ends_term k t) (quotient ρ (balance * k.share) share_scale) balance

-- B_t, rounded once a month
unfoldable pub balance_by : Rounding → RollingTerms → ℕ → ℕ
balance_by ρ k zero = first_balance
balance_by ρ k (suc t) = quotient ρ (opened_by ρ k t (balance_by ρ k t) * (month_growth k (suc t) + 3 * month_survival k (suc t))) (3 * par)

-- the opening balance of month t + 1
unfoldable pub opening_by : Rounding → RollingTerms → ℕ → ℕ
opening_by ρ k t = opened_by ρ k t (balance_by ρ k t)

-- of B_t what rolls over and what does not, each rounded on its own
unfoldable pub rolled_by : Rounding → RollingTerms → ℕ → ℕ
rolled_by ρ k t = quotient ρ (balance_by ρ k t * k.share) share_scale

unfoldable pub unrolled_by : Rounding → RollingTerms → ℕ → ℕ
unrolled_by ρ k t = quotient ρ (balance_by ρ k t * (share_scale - k.share)) share_scale

-- servicing and early withdrawals of month t + 1, rounded once
unfoldable pub outflow_by : Rounding → RollingTerms → ℕ → ℕ
outflow_by ρ k t = quotient ρ (opening_by ρ k t * (k.servicing + par - month_survival k (suc t))) par

-- what of B_t is paid: all of it at the horizon, else what does not roll over where a term ends
unfoldable pub paid_by : Rounding → RollingTerms → ℕ → ℕ
paid_by ρ k t = cond (eqb t k.horizon) (balance_by ρ k t) (cond (ends_term k t) (unrolled_by ρ k t) 0)

-- flow of month t + 1: what is paid, already rounded, is added
unfoldable pub flow_by : Rounding → RollingTerms → ℕ → ℕ
flow_by ρ k t = outflow_by ρ k t + paid_by ρ k (suc t)

-- the flows of the months after T
unfoldable pub later_flow_by : Rounding → RollingTerms → ℕ → ℕ
later_flow_by ρ k t = cond (ltb t k.months) 0 (flow_by ρ k t)

-- the first product: what rolls over at T times df_T, rounded
unfoldable pub first_by : Rounding → RollingTerms → (ℕ → ℕ) → ℕ
first_by ρ k df = quotient ρ (rolled_by ρ k k.months * df k.months) par

-- the sum of flow × df over the months after T up to month n, each product rounded
unfoldable pub sum_by : Rounding → RollingTerms → (ℕ → ℕ) → ℕ → ℕ
sum_by ρ k df n = discounted_sum ρ (later_flow_by ρ k) df n

-- the lower result is the lower first product less the upper sum, the upper one the reverse
unfoldable pub lower_intangible : RollingTerms → (ℕ → ℕ) → ℤ
lower_intangible k z = pos (first_by down k (discount_factor_by down z)) -ℤ pos (sum_by up k (discount_factor_by up z) k.horizon)

unfoldable pub upper_intangible : RollingTerms → (ℕ → ℕ) → ℤ
upper_intangible k z = pos (first_by up k (discount_factor_by up z)) -ℤ pos (sum_by down k (discount_factor_by down z) k.horizon)
