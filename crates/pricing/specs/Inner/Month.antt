-- The run as a state that moves month by month, and the sizes within which a month's products fit 64 bits. Definitions only.
use Rattle.std.specs.Prelude.{ℕ, ◌+◌, ◌*◌, ◌-◌, ◌≤◌, Bool, cond}
use Rattle.pricing.specs.declared.Run.{Run}
use Rattle.pricing.specs.Scales.{par, growth_limit, servicing_limit, amount_limit}
use Rattle.pricing.specs.Terms.{Terms}
use Rattle.pricing.specs.Rounding.{Rounding, quotient}
use Rattle.pricing.specs.Run.{balance_by, discounted_by}

-- the run after t months, with discount factors df: balance and discounted flows, billionths
unfoldable pub run_by : Rounding → Terms → (ℕ → ℕ) → ℕ → Run
run_by ρ k df t = record { balance = balance_by ρ k t; price = discounted_by ρ k df t }

-- B_t from the run at t - 1
unfoldable pub next_balance : Rounding → ℕ → ℕ → Run → ℕ
next_balance ρ growth q run = quotient ρ (run.balance * (growth + 3 * q)) (3 * par)

-- flow_t from the run at t - 1
unfoldable pub next_flow : Rounding → ℕ → ℕ → ℕ → Bool → Run → ℕ
next_flow ρ growth servicing q last run =
    quotient ρ (run.balance * (servicing + par - q)) par + cond last (next_balance ρ growth q run) 0

-- the run one month on, with survival q and discount factor df
unfoldable pub next_run : Rounding → ℕ → ℕ → ℕ → ℕ → Bool → Run → Run
next_run ρ growth servicing q df last run =
    record {
      balance = next_balance ρ growth q run;
      price = run.price + quotient ρ (next_flow ρ growth servicing q last run * df) par;
    }

-- what every month of a deposit within the limits has
pub record Small (run : Run) (growth servicing q df : ℕ) : Type 0 where
  pub balance-le : run.balance ≤ amount_limit
  pub price-le : run.price ≤ amount_limit
  pub growth-le : growth ≤ growth_limit
  pub servicing-le : servicing ≤ servicing_limit
  pub survival-le : q ≤ par
  pub factor-le : df ≤ par

-- a balance or an outflow of such a month is below it
abbrev pub figure_limit : ℕ
figure_limit = 4600000000
