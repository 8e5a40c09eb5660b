-- The run as a state: where it begins, one month on, and that each month of a deposit within the limits fits 64 bits. Assumes nothing.
use Prim.Native.Nat.{ℕ, suc, ◌≤◌, ◌<◌}
use mathlib.Core.Path.{◌≡◌, refl}
use lib.Dec.{eqb}
use native.Mathlib.Nat.{le_of_lt, le_trans}
use Rattle.pricing.specs.Scales.{par}
use Rattle.pricing.specs.Terms.{Terms}
use Rattle.pricing.specs.Bounded.{Bounded}
use Rattle.pricing.specs.Rounding.{Rounding}
use Rattle.pricing.specs.Run.{balance_by, outflow_by, flow_by, discounted_sum}
use Rattle.pricing.specs.Inner.Month.{run_by, next_balance, next_flow, next_run, Small}
use Rattle.pricing.proofs.LimitLaws.{balance-limit, discounted-limit}

-- one month more
pub run-suc : (ρ : Rounding) (k : Terms) (df : ℕ → ℕ) (t : ℕ)
    → next_run ρ k.growth k.servicing (k.survival (suc t)) (df (suc t)) (eqb (suc t) k.months) (run_by ρ k df t)
    ≡ run_by ρ k df (suc t)
unfolding run_by next_run next_flow next_balance balance_by outflow_by flow_by discounted_sum
run-suc ρ k df t = refl

-- the sizes of a month, with discount factors of at most par: balance and price are within the limits of a bounded deposit at any month,
-- and growth, servicing and survival are within its own
pub run_small : (ρ : Rounding) (k : Terms) (df : ℕ → ℕ) → Bounded k → ((t : ℕ) → df t ≤ par) → (t : ℕ) → t < k.months
    → Small (run_by ρ k df t) k.growth k.servicing (k.survival (suc t)) (df (suc t))
unfolding run_by
run_small ρ k df b hd t h =
    record {
      balance-le = balance-limit k b t (le_trans (le_of_lt h) b.months-limit) ρ;
      price-le = discounted-limit k df hd b t (le_of_lt h) ρ;
      growth-le = b.growth-limit;
      servicing-le = b.servicing-limit;
      survival-le = b.survival-limit (suc t);
      factor-le = hd (suc t);
    }
