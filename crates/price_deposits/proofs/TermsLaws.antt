-- The terms of a deposit are within the limits of the run. Assumes nothing.
use Prim.Native.Nat.{ℕ, ◌*◌, ◌-◌, ◌≤◌, ◌<◌}
use mathlib.Core.Path.{◌≡◌, refl, ap, fun_ext}
use mathlib.Core.Bool.{Bool, true, false, cond}
use borrow.Author.Tests.{ltb-true}
use native.Mathlib.Nat.{mul-le-mul_left}
use lib.Dec.{ltb, lit<, lit≤}
use Rattle.form.specs.Limits.{coupon_limit, months_limit}
use Rattle.withdrawal.specs.Gain as of
use Rattle.withdrawal.specs.Tiers.{TierTable}
use Rattle.withdrawal.specs.Survival.{full_survival}
use Rattle.withdrawal.specs.MonthSurvival.{Account, retail, brokered, account_of, early_survival, month_survival}
use Rattle.withdrawal.proofs.MonthSurvivalLaws.{month_survival-le}
use Rattle.pricing.specs.Scales.{coupon_growth, servicing_limit}
use Rattle.pricing.specs.Bounded.{Bounded}
use Rattle.price_deposits.specs.declared.Deposit.{Deposit}
use Rattle.price_deposits.specs.DepositTerms.{servicing_cost, terms_of}

pub servicing-le : (account : Account) → servicing_cost account ≤ servicing_limit
unfolding servicing_cost
servicing-le retail = lit≤ tt
servicing-le brokered = lit≤ tt

pub servicing-pos : (account : Account) → 0 < servicing_cost account
unfolding servicing_cost
servicing-pos retail = lit< tt
servicing-pos brokered = lit< tt

-- a deposit's terms are within the limits where its coupon and months are
pub terms-of-bounded : (tiers : TierTable) (d : Deposit) (rate : ℕ → ℕ) → d.coupon ≤ coupon_limit → d.months ≤ months_limit → Bounded (terms_of tiers d rate)
unfolding terms_of
terms-of-bounded tiers d rate hc hm =
    record {
      growth-limit = mul-le-mul_left _ hc;
      servicing-limit = servicing-le (account_of d.brokered);
      survival-limit = λ t. month_survival-le tiers (account_of d.brokered) d.coupon d.penalty (rate t) d.months t;
      months-limit = hm;
    }

-- a flat path (01:9): terms whose months have one rate are those with that rate, and so are all prices and values made of them. Only survivals
-- before month T read the rate, and there the two are equal
pub flat-terms : (tiers : TierTable) (d : Deposit) (rate : ℕ → ℕ) (r : ℕ) → ((t : ℕ) → t < d.months → rate t ≡ r)
    → terms_of tiers d rate ≡ terms_of tiers d (λ (t : ℕ). r)
unfolding terms_of month_survival
flat-terms tiers d rate r h =
    ap (λ (q : ℕ → ℕ). record {
      growth = coupon_growth * d.coupon;
      servicing = servicing_cost (account_of d.brokered);
      months = d.months;
      survival = q;
    }) (fun_ext (λ t. by t (ltb t d.months) refl))
  where
    early : ℕ → ℕ → ℕ
    early t z = early_survival tiers (account_of d.brokered) (of.gain d.coupon d.penalty z (d.months - t)) (of.cost d.coupon (d.months - t))

    by : (t : ℕ) (b : Bool) → ltb t d.months ≡ b → cond b (early t (rate t)) full_survival ≡ cond b (early t r) full_survival
    by t true e = rw (h t (ltb-true t d.months e))
    by t false e = refl
