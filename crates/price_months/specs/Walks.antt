-- The run that the months before the last make by the multipliers of their levels, and the price after the last. Definitions only.
use Rattle.std.specs.Prelude.{ℕ, zero, suc, ◌+◌, ◌*◌, ◌≤◌, ◌<◌, ◌≡◌, List, get_or}
use Rattle.form.specs.Limits.{tier_limit}
use Rattle.form.specs.Shift.{scenario_count}
use Rattle.pricing.specs.declared.Run.{Run}
use Rattle.pricing.specs.Scales.{par, amount_limit}
use Rattle.pricing.specs.Rounding.{Rounding}
use Rattle.price_multipliers.specs.declared.MonthMultipliers.{MonthMultipliers}
use Rattle.price_multipliers.specs.Multipliers.{carried_of, step_by, last_by}
use Rattle.withdrawal_months.specs.Levels.{level_at, held_at}

-- the run after some months, by the multipliers of their levels, with what a table holds of the discount factors
unfoldable pub walked_by : Rounding → List MonthMultipliers → List (List ℕ) → List ℕ → ℕ → ℕ → Run
walked_by ρ multipliers levels discounts scenario zero = record { balance = par; price = 0 }
walked_by ρ multipliers levels discounts scenario (suc t) =
    step_by ρ
    (held_at multipliers (level_at levels t scenario))
    (get_or discounts (scenario_count * t + scenario) 0)
    (walked_by ρ multipliers levels discounts scenario t)

-- the price after a term of some months, the last of which has multipliers of its own
unfoldable pub priced_by : Rounding → List MonthMultipliers → List (List ℕ) → MonthMultipliers → List ℕ → ℕ → ℕ → ℕ
priced_by ρ multipliers levels last discounts scenario zero = 0
priced_by ρ multipliers levels last discounts scenario (suc t) =
    last_by ρ last (get_or discounts (scenario_count * t + scenario) 0) (walked_by ρ multipliers levels discounts scenario t)

-- the multipliers can be those of the upper run too
pub record Raised (m : MonthMultipliers) : Type 0 where
  pub paid-pos : 0 < m.paid
  pub carried-is : m.carried ≡ carried_of m.left

-- each month but the last can be walked: its level is one of the array's, with multipliers of the upper run too; and the run before every month is within the limit
pub record Walkable (ρ : Rounding) (multipliers : List MonthMultipliers) (levels : List (List ℕ)) (discounts : List ℕ) (scenario months : ℕ) : Type 0 where
  pub level-le : (t : ℕ) → suc t < months → level_at levels t scenario ≤ tier_limit
  pub raised : (t : ℕ) → suc t < months → Raised (held_at multipliers (level_at levels t scenario))
  pub balance-le : (t : ℕ) → t < months → (walked_by ρ multipliers levels discounts scenario t).balance ≤ amount_limit
  pub price-le : (t : ℕ) → t < months → (walked_by ρ multipliers levels discounts scenario t).price ≤ amount_limit
