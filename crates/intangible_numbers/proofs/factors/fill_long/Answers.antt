-- `factors::fill_long` meets its contract: the months passed are written. Assumes nothing.
use mathlib.Core.Path.{◌≡◌}
use native.Mathlib.Omega.{arith}
use Rattle.lists.specs.Tables.{table_from, joined}
use Rattle.lists.proofs.RunLaws.{overwritten-none}
use Rattle.pricing.specs.Rounding.{down, up}
use Rattle.intangible.specs.RollingTerms.{last_month}
use Rattle.intangible_numbers.proofs.FactorLaws.{month-written, all-written}
use Rattle.intangible_numbers.proofs.factors.fill_long.Goals as goal

pub loop-month-init : goal.loop-month-init
unfolding table_from joined
loop-month-init c = let p = c.requires.zeros in rw (p.0, p.1) (overwritten-none _, overwritten-none _)

pub loop-month-preserved : goal.loop-month-preserved
loop-month-preserved c =
    let inv = c.loop-month.invariant in (
      month-written down _ _ c.loop-month.month _ c.loop-month.factors.lower _ c.yield_in-rate.ensures.0 (omega (arith, c.loop-month-test.true)) inv.0 c.fill_month.ensures.0,
      month-written up _ _ c.loop-month.month _ c.loop-month.factors.upper _ c.yield_in-rate.ensures.0 (omega (arith, c.loop-month-test.true)) inv.1 c.fill_month.ensures.1,
    )

pub returns : goal.returns
returns c =
    let at = c.loop-month in
    let e : at.month ≡ last_month = omega arith in
    (all-written down _ _ at.month _ _ e (omega arith) at.invariant.0, all-written up _ _ at.month _ _ e (omega arith) at.invariant.1)
