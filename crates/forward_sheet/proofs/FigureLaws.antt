-- The figures of a scenario's accumulated yields, month by month, and of the two of a forward. Assumes nothing.
use Prim.Native.Nat.{ℕ, suc, ◌+◌, ◌-◌, ◌≤◌, ◌<◌}
use native.Mathlib.Omega.{arith}
use mathlib.Core.List.{List}
use lib.ListN.{get_or}
use Rattle.lists.proofs.FillLaws.{FilledBy}
use Rattle.form.specs.Limits.{sheet_months}
use Rattle.form.specs.Shift.{scenario_count}
use Rattle.form.proofs.ShiftLaws.{shifted-rate-le}
use Rattle.price_factors.specs.Inner.Factors.{WithinRates, sheet_yield}
use Rattle.forward_rates.specs.Forwards.{term_at}
use Rattle.forward_rates.specs.Inner.Figures.{Figure, figure_limit}
use Rattle.forward_rates.specs.Inner.Searches.{Figured, YieldGrowth, yield_loss}
use Rattle.forward_sheet.specs.Sheet.{forward_of}
use Rattle.forward_sheet.specs.Inner.Runs.{Accumulated, WithinLimit, sheet_growth}

-- the figures of a forward
pub figured : {growth : ℕ → ℕ} {figures : List ℕ} → Accumulated growth figures → (i month : ℕ) → month + term_at i ≤ sheet_months
    → Figured (forward_of growth i month) (get_or figures month 0) (get_or figures (month + term_at i) 0)
figured {growth} k i month h =
    record {
      near-yield = k.grows month;
      far-yield = k.grows (month + term_at i);
      within = h;
      start-figure = k.figure month (omega arith);
      end-figure = k.figure (month + term_at i) h;
    }

-- a yield of the sheet grows within its limit in every scenario
pub sheet-grows : (yields : List ℕ) → WithinRates yields → (scenario month : ℕ) → scenario < scenario_count → YieldGrowth (sheet_growth yields scenario month)
unfolding sheet_growth sheet_yield
sheet-grows yields within scenario month h =
    record {
      least = omega arith;
      most = omega (arith, shifted-rate-le scenario (get_or yields (month - 1) 0) (omega arith) (within (month - 1)));
    }

-- what the entry of a month is to be
pub record Entry (growth : ℕ → ℕ) (month figure : ℕ) : Type 0 where
  pub is : Figure yield_loss (growth month) month figure
  pub limit : figure ≤ figure_limit

-- when all are there
pub entries-end : {growth : ℕ → ℕ} (figures : List ℕ) → ((month : ℕ) → YieldGrowth (growth month)) → FilledBy (Entry growth) 0 (suc sheet_months) (suc sheet_months) figures
    → Accumulated growth figures × WithinLimit figures
entries-end figures grows filled = (
  record { grows = grows; figure = λ month h. (filled.holds month (omega arith)).is },
  λ month h. (filled.holds month (omega arith)).limit,
)
