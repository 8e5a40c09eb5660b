-- `price_months::walk::early_months` meets its contract: after t months both runs are those that are walked. Assumes nothing.
use mathlib.Core.Path.{◌≡◌}
use Rattle.pricing.specs.Rounding.{down, up}
use Rattle.price_months.specs.Walks.{walked_by}
use Rattle.price_months.proofs.walk.early_months.Given as goal

abbrev pub invariant-loop-t : goal.invariant-loop-t
invariant-loop-t l =
    (l.lower ≡ walked_by down l.multipliers l.levels l.discounts.lower l.scenario l.t)
    × (l.upper ≡ walked_by up l.multipliers l.levels l.discounts.upper l.scenario l.t)
