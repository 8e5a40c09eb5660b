-- `price_months::walk::early_months` meets its contract: after t months both runs are those that are walked. Assumes nothing.
use mathlib.Core.Path.{refl}
use native.Mathlib.Numerals.{add-one}
use Rattle.pricing.specs.Rounding.{rounding_of}
use Rattle.price_months.specs.Walks.{walked_by}
use Rattle.price_months.proofs.walk.early_months.Goals as goal

pub loop-t-init : goal.loop-t-init
unfolding walked_by
loop-t-init c = (refl, refl)

-- one month more: both runs step by the multipliers of the month's level
pub loop-t-preserved : goal.loop-t-preserved
unfolding walked_by rounding_of
loop-t-preserved c =
    rw (add-one c.loop-t.t) (
      rw (c.next-lower.ensures, c.level_at-level.ensures, c.loop-t.invariant.0),
      rw (c.next-upper.ensures, c.level_at-level.ensures, c.loop-t.invariant.1),
    )
