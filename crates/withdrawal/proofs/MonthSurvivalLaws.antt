-- What survives a month is at most the whole; before the term's end it is what the incentive of the month says. Assumes nothing.
use Prim.Native.Nat.{ℕ, suc, ◌-◌, ◌≤◌, ◌<◌, zero-le}
use mathlib.Core.Path.{◌≡◌}
use borrow.Author.Tests.{lt-ltb, le-ltb}
use native.Mathlib.Nat.{le_refl}
use lib.Dec.{ltb}
use lib.IntN.{ℤ}
use Rattle.form.specs.Limits.{coupon_limit, penalty_limit}
use Rattle.withdrawal.specs.declared.CouponParts.{CouponParts}
use Rattle.withdrawal.specs.declared.Incentive.{Incentive}
use Rattle.withdrawal.specs.Gain as of
use Rattle.withdrawal.specs.Gain.{at_most}
use Rattle.withdrawal.specs.Tiers.{TierTable, annual_withdrawal}
use Rattle.withdrawal.specs.Survival.{full_survival}
use Rattle.withdrawal.specs.MonthSurvival.{Account, retail, brokered, early_survival, month_survival}
use Rattle.withdrawal.specs.Inner.Incentives.{parts_of, incentive_from, gain_of}
use Rattle.withdrawal.proofs.IncentiveLaws.{incentive-gain, incentive-cost}
use Rattle.withdrawal.proofs.SurvivalLaws.{cond_cases, survival-le}

early-le : (table : TierTable) (account : Account) (gain : ℤ) (cost : ℕ) → early_survival table account gain cost ≤ full_survival
unfolding early_survival
early-le table retail gain cost = survival-le (annual_withdrawal table gain cost)
early-le table brokered gain cost = cond_cases (λ q. q ≤ full_survival) (at_most (suc cost) gain) 0 full_survival (λ t. zero-le) (λ t. le_refl full_survival)

-- for any tiers, account and terms
pub month_survival-le : (table : TierTable) (account : Account) (c p r T t : ℕ) → month_survival table account c p r T t ≤ full_survival
unfolding month_survival
month_survival-le table account c p r T t =
    cond_cases (λ q. q ≤ full_survival) (ltb t T) early full_survival
    (λ b. early-le table account (of.gain c p r (T - t)) (of.cost c (T - t))) (λ b. le_refl full_survival)
  where
    early : ℕ
    early = early_survival table account (of.gain c p r (T - t)) (of.cost c (T - t))

-- month t of a term of T, before its end: q by the incentive that the code holds
pub early-month : (table : TierTable) (account : Account) (c p r T t n : ℕ) {q : ℕ} {x : CouponParts} {i : Incentive} → c ≤ coupon_limit → p ≤ penalty_limit
    → x ≡ parts_of c p → i ≡ incentive_from x r n → q ≡ early_survival table account (gain_of i) i.cost → t < T → n ≡ T - t
    → q ≡ month_survival table account c p r T t
unfolding month_survival
early-month table account c p r T t n hc hp ex ei eq h en =
    rw (lt-ltb t T h, ← en, ← (incentive-gain hc hp r n), ← (incentive-cost hc hp r n), ← ex, ← ei) eq

-- at its end nothing is withdrawn early
pub last-month : (table : TierTable) (account : Account) (c p r T : ℕ) → month_survival table account c p r T T ≡ full_survival
unfolding month_survival
last-month table account c p r T = rw (le-ltb T T (le_refl T))
