-- `price_multipliers::left_multiplier` meets its contract. Assumes nothing.
use Prim.Native.Nat.{◌*◌, ◌^◌}
use mathlib.Core.Path.{refl}
use lib.Dec.{lit<}
use Rattle.pricing.specs.Scales.{par}
use Rattle.price_multipliers.proofs.StepLaws.{multiplier-split, left-fits, rest_le}
use Rattle.price_multipliers.proofs.left_multiplier.Goals as goal

pub overflow_add-result-2 : goal.overflow_add-result-2
overflow_add-result-2 c = record { fits = left-fits _ _ c.requires (rest_le _ c.requires) }

pub returns : goal.returns
returns c = multiplier-split _ 6148914691 709551616 (2 ^ 64) (3 * par) (lit< tt) refl
