-- `price_multipliers::discount_tables::to_multipliers` meets its contract: the entries before i hold multipliers, the others their factors. Assumes nothing.
use Prim.Native.Nat.{ℕ, ◌≤◌}
use mathlib.Core.Path.{◌≡◌}
use lib.ListN.{get_or}
use Rattle.lists.proofs.FillLaws.{FilledBy}
use Rattle.form.specs.Counts.{factor_count}
use Rattle.price_multipliers.specs.Multipliers.{discount_multiplier}
use Rattle.pricing.specs.Rounding.{rounding_of}
use Rattle.price_multipliers.proofs.discount_tables.to_multipliers.Given as goal

abbrev pub invariant-loop-i : goal.invariant-loop-i
invariant-loop-i l =
    FilledBy (λ (j n : ℕ). n ≡ discount_multiplier (rounding_of l.up) (get_or l.initial.list j 0)) 0 factor_count l.i l.list
    × ((j : ℕ) → l.i ≤ j → get_or l.list j 0 ≡ get_or l.initial.list j 0)
