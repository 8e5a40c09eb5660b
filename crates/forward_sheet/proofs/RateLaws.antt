-- The growth of a rate is the growth that the rate was made of. Assumes nothing.
use Prim.Native.Nat.{ℕ, suc, ◌-◌}
use native.Mathlib.Omega.{arith}
use mathlib.Core.Path.{◌≡◌, refl}
use mathlib.Core.Bool.{Bool, true, false, cond}
use borrow.Author.Tests.{ltb-true, ltb-false}
use lib.Dec.{ltb}
use lib.IntN.{pos, negsuc, sub_ℕ}
use Rattle.pricing.specs.Scales.{rate_scale}
use Rattle.forward_rates.specs.Forwards.{growth_of}

-- the growth of the rate is the growth
pub growth-of-rate : (g : ℕ) → growth_of (sub_ℕ g rate_scale) ≡ g
unfolding growth_of
growth-of-rate g = by (ltb g rate_scale) refl
  where
    by : (b : Bool) → ltb g rate_scale ≡ b → growth_of (cond b (negsuc (rate_scale - suc g)) (pos (g - rate_scale))) ≡ g
    by true e = let h = ltb-true g rate_scale e in omega arith
    by false e = let h = ltb-false g rate_scale e in omega arith
