-- Figures in place of powers: whole numbers of 31 bits, each rounded down, with what they may lose. Definitions only.
use Rattle.std.specs.Prelude.{ℕ, ◌+◌, ◌*◌, ◌-◌, ◌^◌, ◌≤◌, ◌<◌, cond, leb}
use Rattle.pricing.specs.Scales.{rate_scale}

-- the figure of 1
abbrev pub unit : ℕ
unit = 2 ^ 27

-- no power whose figure is taken is above sixteen or below a sixteenth
abbrev pub span : ℕ
span = 16

abbrev pub figure_limit : ℕ
figure_limit = span * unit

pub record Moderate (growth n : ℕ) : Type 0 where
  pub positive : 0 < growth
  pub most : growth ^ n ≤ span * rate_scale ^ n
  pub least : rate_scale ^ n ≤ span * growth ^ n

-- p is at most the figure of (growth / 120,000)^n, and short of it by at most `loss` units of it
pub record Figure (loss growth n p : ℕ) : Type 0 where
  pub at_most : p * rate_scale ^ n ≤ unit * growth ^ n
  pub near : unit * growth ^ n ≤ p * rate_scale ^ n + loss * growth ^ n

-- what a rounding loses: at most a unit where the power is at least 1, at most sixteen where it is below
unfoldable pub rounding_loss : ℕ → ℕ
rounding_loss growth = cond (leb rate_scale growth) 1 span

-- what the n-th power loses: 2 n - 1 roundings
unfoldable pub power_loss : ℕ → ℕ → ℕ
power_loss growth n = rounding_loss growth * (2 * n - 1)
