-- The months of a deposit by levels of tiers: each level's multipliers are those of the month's survival. Assumes nothing.
use Prim.Native.Nat.{ℕ, suc, ◌*◌, ◌-◌, ◌≤◌, ◌<◌}
use mathlib.Core.Path.{◌≡◌, refl, ap, sym, ◌∙◌}
use mathlib.Core.List.{List}
use native.Mathlib.Nat.{le_trans}
use Rattle.form.specs.Limits.{tier_limit}
use Rattle.form.specs.Shift.{scenario_count}
use Rattle.withdrawal.specs.declared.WithdrawalTiers.{WithdrawalTiers}
use Rattle.withdrawal.specs.MonthSurvival.{account_of, month_survival}
use Rattle.withdrawal.specs.Inner.TierArrays.{tier_table, Usable}
use Rattle.withdrawal.specs.Inner.Incentives.{parts_of, incentive_from}
use Rattle.withdrawal.proofs.MonthSurvivalLaws.{early-month}
use Rattle.withdrawal_months.specs.TierLevels.{LevelFor, last_level}
use Rattle.withdrawal_months.proofs.LevelLaws.{level-last, last-le, level-alike, survival-alike, level-survival}
use Rattle.price_multipliers.specs.Multipliers.{multipliers_of}
use Rattle.pricing.specs.Scales.{coupon_growth}
use Rattle.price_deposits.specs.declared.Deposit.{Deposit}
use Rattle.price_deposits.specs.DepositTerms.{servicing_cost}
use Rattle.price_deposits.specs.Inner.Prices.{shifted_path, DepositLimits}
use Rattle.price_deposits.specs.Inner.Levels.{TiersLent, lent_tiers, Levelled, Multiplied}
use Rattle.withdrawal_months.specs.Levels.{level_at, multipliers_at}
use Rattle.price_multipliers.specs.declared.MonthMultipliers.{MonthMultipliers}

-- what is lent of usable tiers
abbrev pub lent : (t : WithdrawalTiers) → Usable t → TiersLent t.count t.edges t.survivals t.retained
lent t u = record { withdrawals = t.withdrawals; otherwise = t.otherwise; usable = u }

-- levels and multipliers are those of the tiers that the edges and survivals are lent of
module _ (t : WithdrawalTiers) (l : TiersLent t.count t.edges t.survivals t.retained) (d : Deposit) where
  pub levelled-lent : (rates : List ℕ) (column : ℕ) (levels : List (List ℕ)) → Levelled t d rates column levels → Levelled (lent_tiers l) d rates column levels
  levelled-lent rates column levels f = λ month h i s. level-alike t l.withdrawals l.otherwise d.brokered _ _ (f month h i s)

  pub multiplied-lent : (multipliers : List MonthMultipliers) → Multiplied t d multipliers → Multiplied (lent_tiers l) d multipliers
  unfolding last_level multipliers_at
  multiplied-lent multipliers f = λ level h.
      f level h ∙ ap (multipliers_of (coupon_growth * d.coupon) (servicing_cost (account_of d.brokered))) (sym (survival-alike t l.withdrawals l.otherwise d.brokered level))

-- a month before the last, counted from 0, in a scenario
module _ (t : WithdrawalTiers) (d : Deposit) (rates : List ℕ) (column : ℕ) (levels : List (List ℕ)) (scenario month : ℕ) (u : Usable t)
    (levelled : Levelled t d rates column levels) (hs : scenario < scenario_count) (hm : suc month < d.months) where
  -- its level
  level-here : LevelFor d.brokered t
      (incentive_from (parts_of d.coupon d.penalty) (shifted_path scenario rates column (suc month)) (d.months - suc month)) (level_at levels month scenario)
  unfolding level_at shifted_path
  level-here = levelled month hm scenario hs

  -- is one that the account may have
  pub level-within : level_at levels month scenario ≤ last_level d.brokered t
  level-within = level-last d.brokered t _ (level_at levels month scenario) level-here

  pub level-at-le : level_at levels month scenario ≤ tier_limit
  level-at-le = le_trans level-within (last-le d.brokered t u.edges_fit.count-le)

  -- its multipliers are those of the month's survival
  pub multipliers-here : DepositLimits d
      → multipliers_at d.brokered (coupon_growth * d.coupon) (servicing_cost (account_of d.brokered)) t (level_at levels month scenario)
      ≡ multipliers_of (coupon_growth * d.coupon) (servicing_cost (account_of d.brokered))
      (month_survival (tier_table t) (account_of d.brokered) d.coupon d.penalty (shifted_path scenario rates column (suc month)) d.months (suc month))
  unfolding multipliers_at
  multipliers-here l =
      ap (multipliers_of (coupon_growth * d.coupon) (servicing_cost (account_of d.brokered)))
      (early-month (tier_table t) (account_of d.brokered) d.coupon d.penalty (shifted_path scenario rates column (suc month)) d.months (suc month)
      (d.months - suc month) l.coupon-le l.penalty-le refl refl
      (level-survival d.brokered t _ (level_at levels month scenario) u level-here) hm refl)
