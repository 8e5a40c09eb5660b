-- The levels of the tiers: their limits, and what survives at each. Assumes nothing.
use Prim.Native.Nat.{ℕ, suc, ◌≤◌, zero-le}
use mathlib.Core.Path.{◌≡◌, refl, ap}
use mathlib.Core.Bool.{Bool, true, false, cond}
use mathlib.Core.List.{List}
use native.Mathlib.Nat.{le_refl}
use native.Mathlib.Omega.{arith}
use lib.Dec.{ltb, lit≤}
use Rattle.lists.proofs.TestLaws.{either}
use Rattle.form.specs.Limits.{tier_limit}
use Rattle.withdrawal.specs.declared.Incentive.{Incentive}
use Rattle.withdrawal.specs.declared.ReachedTier.{ReachedTier}
use Rattle.withdrawal.specs.declared.WithdrawalTiers.{WithdrawalTiers}
use Rattle.withdrawal.specs.Gain.{at_most}
use Rattle.withdrawal.specs.Reached.{reached_tier}
use Rattle.withdrawal.specs.Survival.{full_survival}
use Rattle.withdrawal.specs.MonthSurvival.{account_of, early_survival}
use Rattle.withdrawal.specs.Inner.TierArrays.{tier_table, survival_at, Usable}
use Rattle.withdrawal.specs.Inner.Incentives.{gain_of}
use Rattle.withdrawal.proofs.HeldLaws.{level-answer, survivals-le, retained-le}
use Rattle.withdrawal_months.specs.TierLevels.{LevelFor, last_level, level_survival}

-- a level is at most the account's last
pub level-last : (b : Bool) (t : WithdrawalTiers) (x : Incentive) (level : ℕ) → LevelFor b t x level → level ≤ last_level b t
unfolding last_level
level-last true t x level p = by (at_most (suc x.cost) (gain_of x)) p
  where
    by : (s : Bool) → level ≡ cond s 0 1 → level ≤ 1
    by true e = omega (arith, e)
    by false e = omega (arith, e)
level-last false t x level p = p.within

-- and that at most the limit of the tiers
pub last-le : (b : Bool) (t : WithdrawalTiers) → t.count ≤ tier_limit → last_level b t ≤ tier_limit
unfolding last_level
last-le true t h = lit≤ tt
last-le false t h = h

-- at every level no more survives than all
pub level-survival-le : (b : Bool) (t : WithdrawalTiers) (level : ℕ) → Usable t → level_survival b t level ≤ full_survival
unfolding level_survival survival_at
level-survival-le true t level u = either (λ (n : ℕ). n ≤ full_survival) (ltb level 1) zero-le (le_refl full_survival)
level-survival-le false t level u = either (λ (n : ℕ). n ≤ full_survival) (ltb level t.count) (survivals-le t u level) (retained-le t u)

-- a level and what survives at it are those of any tiers with the same edges and survivals
module _ (t : WithdrawalTiers) (withdrawals : List ℕ) (otherwise : ℕ) where
  abbrev pub with_withdrawals : WithdrawalTiers
  with_withdrawals =
      record { count = t.count; edges = t.edges; withdrawals = withdrawals; survivals = t.survivals; otherwise = otherwise; retained = t.retained }

  pub level-alike : (b : Bool) (x : Incentive) (level : ℕ) → LevelFor b t x level → LevelFor b with_withdrawals x level
  level-alike true x level p = p
  level-alike false x level p = p

  pub survival-alike : (b : Bool) (level : ℕ) → level_survival b with_withdrawals level ≡ level_survival b t level
  unfolding level_survival survival_at
  survival-alike true level = refl
  survival-alike false level = refl

-- what survives at the level of an incentive is what survives under it: of brokered money nothing at 0 and all at 1, by whether the gain is
-- above the cost; of other money that of the tier reached, or of the lowest withdrawal where none is
pub level-survival : (b : Bool) (t : WithdrawalTiers) (x : Incentive) (level : ℕ) → Usable t → LevelFor b t x level
    → level_survival b t level ≡ early_survival (tier_table t) (account_of b) (gain_of x) x.cost
unfolding level_survival early_survival account_of reached_tier
level-survival true t x level u p = rw p (by (at_most (suc x.cost) (gain_of x)))
  where
    by : (s : Bool) → level_survival true t (cond s 0 1) ≡ cond s 0 full_survival
    by true = refl
    by false = refl
level-survival false t x level u p = ap (λ (r : ReachedTier). r.survival) (level-answer t (gain_of x) x.cost level _ u p refl)
