-- The months before the last by levels of tiers, and the multipliers of each level. Definitions only.
use Rattle.std.specs.Prelude.{ℕ, suc, ◌-◌, ◌≤◌, ◌<◌, ◌≡◌, Bool, false, List, [], get_or}
use Rattle.form.specs.Shift.{scenario_count, shifted_rate, path_rate}
use Rattle.withdrawal.specs.declared.WithdrawalTiers.{WithdrawalTiers}
use Rattle.withdrawal.specs.Inner.Incentives.{parts_of, incentive_from}
use Rattle.withdrawal_months.specs.TierLevels.{LevelFor, last_level, level_survival}
use Rattle.price_multipliers.specs.declared.MonthMultipliers.{MonthMultipliers}
use Rattle.price_multipliers.specs.Multipliers.{multipliers_of}

-- the level of a month, counted from 0, in a scenario
unfoldable pub level_at : List (List ℕ) → ℕ → ℕ → ℕ
level_at levels month scenario = get_or (get_or levels month []) scenario 0

-- the levels of a month before the last, at the retail rates of a column's months, which are shifted for each scenario
abbrev pub MonthLevelled : Bool → ℕ → ℕ → ℕ → WithdrawalTiers → List ℕ → ℕ → ℕ → List ℕ → Type 0
MonthLevelled brokered coupon penalty months t rates column month levels =
    (i : ℕ) → i < scenario_count
    → LevelFor brokered t
    (incentive_from (parts_of coupon penalty) (shifted_rate i (path_rate rates column (suc month))) (months - suc month))
    (get_or levels i 0)

-- levels of all months before the last
abbrev pub Levelled : Bool → ℕ → ℕ → ℕ → WithdrawalTiers → List ℕ → ℕ → List (List ℕ) → Type 0
Levelled brokered coupon penalty months t rates column levels =
    (month : ℕ) → suc month < months → MonthLevelled brokered coupon penalty months t rates column month (get_or levels month [])

-- the room from the last month on is as it was
abbrev pub LeftBehind : ℕ → List (List ℕ) → List (List ℕ) → Type 0
LeftBehind months before after = (month : ℕ) → months ≤ suc month → get_or after month [] ≡ get_or before month []

-- the multipliers of a level, by growth and servicing cost
unfoldable pub multipliers_at : Bool → ℕ → ℕ → WithdrawalTiers → ℕ → MonthMultipliers
multipliers_at brokered growth servicing t level = multipliers_of growth servicing (level_survival brokered t level)

-- where there is no level
abbrev pub no_multipliers : MonthMultipliers
no_multipliers = record { paid = 0; left = 0; carried = 0; whole = false }

-- the multipliers that an array holds at a level
abbrev pub held_at : List MonthMultipliers → ℕ → MonthMultipliers
held_at multipliers level = get_or multipliers level no_multipliers

-- multipliers of all levels that the account may have
abbrev pub Multiplied : Bool → ℕ → ℕ → WithdrawalTiers → List MonthMultipliers → Type 0
Multiplied brokered growth servicing t multipliers =
    (level : ℕ) → level ≤ last_level brokered t → held_at multipliers level ≡ multipliers_at brokered growth servicing t level

-- past them the array holds nothing
abbrev pub NothingPast : ℕ → List MonthMultipliers → Type 0
NothingPast last multipliers = (level : ℕ) → last < level → held_at multipliers level ≡ no_multipliers
