-- `accumulated` meets its contract: the power of a shifted yield's growth is moderate, and loses two units a month at most. Assumes nothing.
use Prim.Native.Nat.{◌+◌, ◌≤◌}
use native.Mathlib.Omega.{arith}
use Rattle.form.specs.Shift.{shifted_limit}
use Rattle.pricing.specs.Scales.{rate_scale}
use Rattle.forward_rates.specs.Inner.Searches.{YieldGrowth, yield_loss}
use Rattle.forward_rates.proofs.PowerLaws.{yield-moderate}
use Rattle.forward_rates.proofs.FigureLaws.{figure-less, figure-limit, yield-loss-le}
use Rattle.forward_rates.proofs.figures.accumulated.Goals as goal

-- the growth of a shifted yield
grows : (z : _) → z ≤ shifted_limit → YieldGrowth (rate_scale + z)
grows z h = record { least = omega arith; most = omega arith }

pub power-requires : goal.power-requires
power-requires c = (omega (arith, c.if-months-eq0.false), yield-moderate _ _ (grows _ c.requires.0) c.requires.1)

pub returns : goal.returns
returns c =
    let grown = grows _ c.requires.0 in (
      figure-less yield_loss (omega (arith, yield-loss-le _ c.args.months grown.least)) c.power.ensures,
      figure-limit (yield-moderate _ _ grown c.requires.1) c.power.ensures,
    )
