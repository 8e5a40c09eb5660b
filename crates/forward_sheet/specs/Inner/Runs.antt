-- What a run of numbers written into a list leaves, and the figures of a scenario's accumulated yields. Definitions only.
use Rattle.std.specs.Prelude.{ℕ, ◌+◌, ◌≤◌, ◌<◌, ◌≡◌, List, ℤ, pos, length, get_or}
use Rattle.form.specs.Limits.{sheet_months}
use Rattle.pricing.specs.Scales.{rate_scale}
use Rattle.price_factors.specs.Inner.Factors.{sheet_yield}
use Rattle.forward_rates.specs.Inner.Figures.{Figure, figure_limit}
use Rattle.forward_rates.specs.Inner.Searches.{YieldGrowth, yield_loss}

-- only numbers from one index up to another are changed
pub record Changed (from to : ℕ) (before after : List ℤ) : Type 0 where
  pub as_long : length after ≡ length before
  pub below : (i : ℕ) → i < from → get_or after i (pos 0) ≡ get_or before i (pos 0)
  pub beyond : (i : ℕ) → to ≤ i → get_or after i (pos 0) ≡ get_or before i (pos 0)

-- the growth of a month's yield in a scenario, by a sheet of yields
unfoldable pub sheet_growth : List ℕ → ℕ → ℕ → ℕ
sheet_growth yields scenario month = rate_scale + sheet_yield yields scenario month

-- the figure of the accumulated yield of each month from 0 to 120, by the growths of the months
pub record Accumulated (growth : ℕ → ℕ) (figures : List ℕ) : Type 0 where
  pub grows : (month : ℕ) → YieldGrowth (growth month)
  pub figure : (month : ℕ) → month ≤ sheet_months → Figure yield_loss (growth month) month (get_or figures month 0)

-- figures that products take
abbrev pub WithinLimit : List ℕ → Type 0
WithinLimit figures = (month : ℕ) → month ≤ sheet_months → get_or figures month 0 ≤ figure_limit
