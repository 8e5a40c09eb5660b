-- The run as a state: where a term's month, a rollover and the horizon take it. Assumes nothing.
use Prim.Native.Nat.{ℕ, zero, suc, ◌+◌, ◌-◌, ◌≤◌, ◌<◌}
use mathlib.Core.Path.{◌≡◌, refl}
use mathlib.Core.Bool.{Bool, true, false, cond, ◌||◌}
use borrow.Author.Tests.{eq-eqb, ne_eqb, lt-ltb, le-ltb}
use lib.Dec.{eqb, lit<}
use native.Mathlib.Nat.{add-zero, le_refl, le_of_lt}
use native.Mathlib.Omega.{arith}
use Rattle.pricing.specs.Scales.{par}
use Rattle.pricing.specs.Rounding.{Rounding}
use Rattle.pricing.specs.Run.{discounted_sum}
use Rattle.pricing.proofs.RoundingLaws.{quotient-zero}
use Rattle.intangible.specs.RollingTerms.{RollingTerms}
use Rattle.intangible.specs.RolledMonths.{term_end, ends_term, month_survival, month_growth, term_coupon}
use Rattle.intangible.specs.Run.{opened_by, balance_by, opening_by, rolled_by, unrolled_by, outflow_by, paid_by, flow_by, later_flow_by, sum_by}
use Rattle.intangible.specs.Inner.Month.{rolled_at, closing_by, leaving_by, part_by, product_by, early_month, rolling_month, last_sum}
use Rattle.intangible.proofs.TermLaws.{filed-within, filed-ends}

module _ (k : RollingTerms) (t : ℕ) where
  -- what survives month t + 1
  pub survival-before : suc t < term_end k (suc t) → suc t < k.horizon
      → month_survival k (suc t) ≡ k.survival (term_coupon k (suc t)) (k.rate (suc t)) (term_end k (suc t) - suc t)
  unfolding month_survival ends_term
  survival-before he hh =
      rw (ne_eqb (suc t) k.horizon (λ e. omega (arith, e)), ne_eqb (suc t) (term_end k (suc t)) (λ e. omega (arith, e)))

  pub survival-end : suc t ≡ term_end k (suc t) → month_survival k (suc t) ≡ par
  unfolding month_survival ends_term
  survival-end e = rw (eq-eqb (suc t) (term_end k (suc t)) e) (by (eqb (suc t) k.horizon))
    where
      by : (b : Bool) → cond (b || true) par (k.survival (term_coupon k (suc t)) (k.rate (suc t)) (term_end k (suc t) - suc t)) ≡ par
      by true = refl
      by false = refl

  pub survival-horizon : suc t ≡ k.horizon → month_survival k (suc t) ≡ par
  unfolding month_survival
  survival-horizon e = rw (eq-eqb (suc t) k.horizon e)

-- the flow of month t + 1: before the last of its term, in the last, and at the horizon
module _ (ρ : Rounding) (k : RollingTerms) (t : ℕ) where
  within : suc t < term_end k (suc t) → ends_term k (suc t) ≡ false
  unfolding ends_term
  within h = ne_eqb (suc t) (term_end k (suc t)) (λ e. omega (arith, e))

  ends : suc t ≡ term_end k (suc t) → ends_term k (suc t) ≡ true
  unfolding ends_term
  ends h = eq-eqb (suc t) (term_end k (suc t)) h

  flow-early : suc t < term_end k (suc t) → suc t < k.horizon → flow_by ρ k t ≡ outflow_by ρ k t
  unfolding flow_by paid_by
  flow-early he hh = rw (ne_eqb (suc t) k.horizon (λ e. omega (arith, e)), within he, add-zero)

  flow-rolling : suc t ≡ term_end k (suc t) → suc t < k.horizon → flow_by ρ k t ≡ outflow_by ρ k t + unrolled_by ρ k (suc t)
  unfolding flow_by paid_by
  flow-rolling he hh = rw (ne_eqb (suc t) k.horizon (λ e. omega (arith, e)), ends he)

  flow-last : suc t ≡ k.horizon → flow_by ρ k t ≡ outflow_by ρ k t + balance_by ρ k (suc t)
  unfolding flow_by paid_by
  flow-last e = rw (eq-eqb (suc t) k.horizon e)

-- month t + 1 after the filed term
module _ (ρ : Rounding) (k : RollingTerms) (df : ℕ → ℕ) (t : ℕ) (later : k.months ≤ t) where
  sum-suc : sum_by ρ k df (suc t) ≡ sum_by ρ k df t + product_by ρ (df (suc t)) (flow_by ρ k t)
  unfolding sum_by discounted_sum product_by later_flow_by
  sum-suc = rw (le-ltb t k.months later)

  -- before the last of its term
  pub early-on : suc t < term_end k (suc t) → suc t < k.horizon
      → early_month ρ (month_growth k (suc t)) k.servicing (month_survival k (suc t)) (df (suc t)) (rolled_at ρ k df t) ≡ rolled_at ρ k df (suc t)
  unfolding early_month rolled_at closing_by leaving_by opening_by opened_by balance_by outflow_by
  early-on he hh = rw (sum-suc, flow-early ρ k t he hh, within ρ k t he)

  -- the last of its term, before the horizon
  pub rolling-on : suc t ≡ term_end k (suc t) → suc t < k.horizon
      → rolling_month ρ (month_growth k (suc t)) k.servicing k.share (df (suc t)) (rolled_at ρ k df t) ≡ rolled_at ρ k df (suc t)
  unfolding rolling_month rolled_at closing_by leaving_by part_by opening_by opened_by balance_by outflow_by unrolled_by
  rolling-on he hh = rw (sum-suc, flow-rolling ρ k t he hh, ends ρ k t he, survival-end k t he)

  -- the horizon
  pub last_on : suc t ≡ k.horizon
      → last_sum ρ (month_growth k (suc t)) k.servicing (df (suc t)) (rolled_at ρ k df t) ≡ sum_by ρ k df (suc t)
  unfolding last_sum rolled_at closing_by leaving_by opening_by opened_by balance_by outflow_by
  last_on e = rw (sum-suc, flow-last ρ k t e, survival-horizon k t e)

module _ (ρ : Rounding) (k : RollingTerms) where
  -- a month of the filed term
  pub filed-on : (t : ℕ) → t < k.months → closing_by ρ (month_growth k (suc t)) (month_survival k (suc t)) (balance_by ρ k t) ≡ balance_by ρ k (suc t)
  unfolding closing_by balance_by opened_by
  filed-on t h = rw (filed-within k t h)

  -- up to T nothing is summed
  no-sum : (df : ℕ → ℕ) (t : ℕ) → t ≤ k.months → 0 ≡ sum_by ρ k df t
  unfolding sum_by discounted_sum later_flow_by
  no-sum df zero h = refl
  no-sum df (suc t) h = rw (lt-ltb t k.months h, quotient-zero ρ (df (suc t)) par (lit< tt), ← (no-sum df t (le_of_lt h)))

  -- and what rolls over at T is what the next month opens with
  pub rolled-on : (df : ℕ → ℕ) → record { balance = rolled_by ρ k k.months; sum = 0 } ≡ rolled_at ρ k df k.months
  unfolding rolled_at opening_by opened_by rolled_by
  rolled-on df = rw (filed-ends k, ← (no-sum df k.months (le_refl k.months)))
