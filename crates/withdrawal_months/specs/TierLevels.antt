-- What survives a month by the level of a tier: of retail money the first that is reached, or the count of the tiers; of brokered money 0 where it is withdrawn
-- whole, else 1. Definitions only.
use Rattle.std.specs.Prelude.{ℕ, suc, ◌≡◌, Bool, true, false, cond, ltb}
use Rattle.withdrawal.specs.declared.Incentive.{Incentive}
use Rattle.withdrawal.specs.declared.WithdrawalTiers.{WithdrawalTiers}
use Rattle.withdrawal.specs.Gain.{at_most}
use Rattle.withdrawal.specs.Survival.{full_survival}
use Rattle.withdrawal.specs.Inner.Incentives.{gain_of}
use Rattle.withdrawal.specs.Inner.TierArrays.{survival_at}
use Rattle.withdrawal.specs.Inner.Levels.{FirstLevel}

-- the level of an incentive, of brokered money or not
abbrev pub LevelFor : Bool → WithdrawalTiers → Incentive → ℕ → Type 0
LevelFor true t x level = level ≡ cond (at_most (suc x.cost) (gain_of x)) 0 1
LevelFor false t x level = FirstLevel t.count t.edges (gain_of x) x.cost level

-- the last level of an account
unfoldable pub last_level : Bool → WithdrawalTiers → ℕ
last_level is_brokered t = cond is_brokered 1 t.count

-- q at a level, billionths: the tiers' survivals, and past them the survival where no edge is reached
unfoldable pub level_survival : Bool → WithdrawalTiers → ℕ → ℕ
level_survival true t level = cond (ltb level 1) 0 full_survival
level_survival false t level = survival_at t level
