-- The limit of shifted rates. Assumes nothing.
use Prim.Native.Nat.{ℕ, ◌≤◌}
use lib.ListN.{get_or}
use native.Mathlib.Omega.{arith}
use Rattle.form.specs.Limits.{rate_limit}
use Rattle.lists.proofs.TableLaws.{table-le}
use Rattle.form.specs.Shift.{scenario_count, shifted_rate, shifted_rates, shifted_limit}

-- a rate within its limit stays within the limit of shifted rates in every scenario
pub shifted-rate-le : (scenario rate : ℕ) → scenario ≤ 6 → rate ≤ rate_limit → shifted_rate scenario rate ≤ shifted_limit
unfolding shifted_rate
shifted-rate-le scenario rate s h = omega arith

-- a rate within its limit, in all scenarios
pub shifted-rates-le : (rate : ℕ) → rate ≤ rate_limit → (i : ℕ) → get_or (shifted_rates rate) i 0 ≤ shifted_limit
unfolding shifted_rates
shifted-rates-le rate h = table-le 0 scenario_count _ shifted_limit (λ s l u. shifted-rate-le s rate (omega arith) h)
