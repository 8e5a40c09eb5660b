-- `price_factors::factor_chains::chained` meets its contract: after i turns each chain has i factors. Assumes nothing.
use Prim.Native.Nat.{◌-◌, ◌≤◌}
use mathlib.Core.Path.{◌≡◌}
use Rattle.pricing.specs.Rounding.{rounding_of}
use Rattle.pricing.specs.Inner.Multipliers.{chained_by}
use Rattle.price_factors.proofs.factor_chains.chained.Given as goal

abbrev pub invariant-loop : goal.invariant-loop
invariant-loop l = (l.counter ≤ l.n) × (l.chain ≡ chained_by (rounding_of l.up) l.multipliers l.counter)

abbrev pub decreases-loop : goal.decreases-loop
decreases-loop l = l.n - l.counter
