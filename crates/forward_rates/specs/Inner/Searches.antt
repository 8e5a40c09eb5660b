-- The search for a pair of growths: what is known of the figures, where it begins, what one comparison tells. Definitions only.
use Rattle.std.specs.Prelude.{ℕ, ◌+◌, ◌*◌, ◌-◌, ◌^◌, ◌≤◌, ◌<◌}
use Rattle.form.specs.Limits.{sheet_months}
use Rattle.form.specs.Shift.{shifted_limit}
use Rattle.pricing.specs.Scales.{rate_scale}
use Rattle.forward_rates.specs.declared.sides.Side.{Side}
use Rattle.forward_rates.specs.declared.sides.Side.TheVariants.{Below, Above, Close}
use Rattle.forward_rates.specs.Forwards.{Forward, AtMost, AtLeast, growth_limit}
use Rattle.forward_rates.specs.Inner.Figures.{span, Moderate, Figure}

-- the growth of a shifted yield
pub record YieldGrowth (growth : ℕ) : Type 0 where
  pub least : rate_scale ≤ growth
  pub most : growth ≤ rate_scale + shifted_limit

-- what the figure of an accumulated yield loses: two roundings a month at most
abbrev pub yield_loss : ℕ
yield_loss = 2 * sheet_months

-- figures of the two accumulated yields of a forward
pub record Figured (k : Forward) (start end : ℕ) : Type 0 where
  pub near-yield : YieldGrowth k.near
  pub far-yield : YieldGrowth k.far
  pub within : k.month + k.term ≤ sheet_months
  pub start-figure : Figure yield_loss k.near k.month start
  pub end-figure : Figure yield_loss k.far (k.month + k.term) end

-- no accumulated yield is above 15.93
abbrev pub yield_limit : ℕ
yield_limit = 1593

-- two growths between which that of every true rate over a term lies, with a moderate power
pub record Bracket (term lower upper : ℕ) : Type 0 where
  pub rises : lower < upper
  pub lower-above : 1 < lower
  pub upper-limit : upper ≤ growth_limit
  pub lower-moderate : rate_scale ^ term ≤ span * lower ^ term
  pub upper-moderate : upper ^ term ≤ span * rate_scale ^ term
  pub lower-below : yield_limit * lower ^ term ≤ 100 * rate_scale ^ term
  pub upper-above : yield_limit * rate_scale ^ term ≤ 100 * upper ^ term

-- a growth that can be tried over a term
pub record Fit (term growth : ℕ) : Type 0 where
  pub moderate : Moderate growth term
  pub above : 1 < growth
  pub limit : growth ≤ growth_limit

-- what the figure of a power over a term loses, thirty-two a month at most, and what the figures of a comparison lose together, in units of 1 / 2^27
abbrev pub term_loss : ℕ → ℕ
term_loss term = 2 * span * term

abbrev pub margin : ℕ → ℕ
margin term = term_loss term + yield_loss

-- what a comparison tells of a growth: below the true rate's, above it, or less than one from it
unfoldable pub Told : Forward → ℕ → Side → Type 0
Told k growth Below = AtMost k growth
Told k growth Above = AtLeast k growth
Told k growth Close = AtMost k (growth - 1) × AtLeast k (growth + 1)
