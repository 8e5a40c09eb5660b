-- The price after a term. Assumes nothing.
use Prim.Native.Nat.{ℕ, zero, suc, ◌+◌, ◌*◌, ◌-◌, ◌<◌}
use mathlib.Core.Path.{◌≡◌}
use mathlib.Core.List.{List}
use native.Mathlib.Omega.{arith}
use lib.ListN.{get_or}
use Rattle.form.specs.Shift.{scenario_count}
use Rattle.pricing.specs.Rounding.{Rounding}
use Rattle.price_multipliers.specs.declared.MonthMultipliers.{MonthMultipliers}
use Rattle.price_multipliers.specs.Multipliers.{last_by}
use Rattle.price_months.specs.Walks.{walked_by, priced_by}

-- the price after a term of at least one month
pub priced-suc : (ρ : Rounding) (multipliers : List MonthMultipliers) (levels : List (List ℕ)) (last : MonthMultipliers) (discounts : List ℕ) (scenario n : ℕ) → 0 < n
    → priced_by ρ multipliers levels last discounts scenario n
    ≡ last_by ρ last (get_or discounts (scenario_count * (n - 1) + scenario) 0) (walked_by ρ multipliers levels discounts scenario (n - 1))
unfolding priced_by
priced-suc ρ multipliers levels last discounts scenario zero h = absurd (omega arith)
priced-suc ρ multipliers levels last discounts scenario (suc t) h = let e : suc t - 1 ≡ t = omega arith in rw e
