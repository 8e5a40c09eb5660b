-- A coupon given in hundredths of a percent and counted tenfold (02:CR 4) has the growth, the annual withdrawal and the survival that document 01
-- writes with hundredths: gain and cost are both ten times document 01's, so the same edges are reached. Assumes nothing.
use Prim.Native.Nat.{ℕ, suc, ◌+◌, ◌*◌, ◌-◌, ◌≤◌}
use mathlib.Core.Path.{◌≡◌, refl, sym, ap, ◌∙◌}
use mathlib.Core.Bool.{Bool, cond}
use mathlib.Core.List.{List, [], ◌∷◌}
use native.Mathlib.Nat.{mul-le-mul}
use native.Mathlib.Omega.{arith}
use lib.IntN.{ℤ}
use Rattle.lists.proofs.OrderLaws.{leb-iff}
use Rattle.form.specs.Limits.{filed_coupon_limit, penalty_limit}
use Rattle.withdrawal.specs.declared.Incentive.{Incentive}
use Rattle.withdrawal.specs.Gain.{gain_scale, gain, cost, at_most}
use Rattle.withdrawal.specs.Tiers.{WithdrawalTier, TierTable, reached, first_reached, annual_withdrawal}
use Rattle.withdrawal.specs.Survival.{survival, full_survival}
use Rattle.withdrawal.specs.MonthSurvival.{Account, retail, brokered, early_survival}
use Rattle.withdrawal.specs.Inner.Incentives.{gain_of}
use Rattle.withdrawal.proofs.GainLaws.{difference-pos, reached-iff, gain-above-cost-iff}
use Rattle.pricing.specs.Scales.{coupon_growth}
use Rattle.theorem_cases.specs.Hundredths.{gain_in_hundredths, cost_in_hundredths, growth_in_hundredths}

-- edges that are reached by two gains and costs alike give the same withdrawal
same_first : (g h : ℤ) (k m otherwise : ℕ) → ((edge : ℕ) → reached g k edge ≡ reached h m edge) → (xs : List WithdrawalTier)
    → first_reached g k otherwise xs ≡ first_reached h m otherwise xs
unfolding first_reached
same_first g h k m otherwise same [] = refl
same_first g h k m otherwise same (x ∷ xs) = rw (same x.edge, same_first g h k m otherwise same xs)

-- an incentive, and one of ten times its parts
module _ (x y : Incentive) (e : y.earned ≡ 10 * x.earned) (f : y.forfeited ≡ 10 * x.forfeited) (k : y.cost ≡ 10 * x.cost) where
  tenfold-reached : (edge : ℕ) → reached (gain_of y) y.cost edge ≡ reached (gain_of x) x.cost edge
  tenfold-reached edge =
      reached-iff y edge
      ∙ rw (e, f, k)
      (leb-iff (edge * (10 * x.cost) + 100 * (10 * x.forfeited)) (100 * (10 * x.earned)) (edge * x.cost + 100 * x.forfeited) (100 * x.earned)
      (λ l. omega arith) (λ l. omega arith))
      ∙ sym (reached-iff x edge)

  tenfold-above : at_most (suc y.cost) (gain_of y) ≡ at_most (suc x.cost) (gain_of x)
  tenfold-above =
      gain-above-cost-iff y
      ∙ rw (e, f, k)
      (leb-iff (suc (10 * x.cost + 10 * x.forfeited)) (10 * x.earned) (suc (x.cost + x.forfeited)) x.earned
      (λ l. omega arith) (λ l. omega arith))
      ∙ sym (gain-above-cost-iff x)

module _ (c p r n : ℕ) (hc : c ≤ filed_coupon_limit) (hp : p ≤ penalty_limit) where
  -- the incentive that document 01 writes with hundredths, and the model's
  abbrev old : Incentive
  old = record { earned = (12000000 - c * p) * (r * n); forfeited = 120000 * c * p; cost = 12000000 * c * n }

  abbrev fine : Incentive
  fine = record { earned = (gain_scale - 10 * c * p) * (r * n); forfeited = 120000 * (10 * c) * p; cost = 12000000 * (10 * c) * n }

  within : c * p ≤ 5400000
  within = mul-le-mul hc hp

  old-gain : gain_of old ≡ gain_in_hundredths c p r n
  unfolding gain_of gain_in_hundredths
  old-gain = rw (difference-pos 12000000 (c * p) (omega (arith, within)))

  fine-gain : gain_of fine ≡ gain (10 * c) p r n
  unfolding gain_of gain
  fine-gain = rw (difference-pos gain_scale (10 * c * p) (omega (arith, within)))

  earned-tenfold : fine.earned ≡ 10 * old.earned
  earned-tenfold =
      let whole : gain_scale - 10 * c * p ≡ 10 * (12000000 - c * p) = omega (arith, within) in
      rw whole (omega arith)

  -- before the term's end the same survives
  pub survival-in-hundredths : (table : TierTable) (account : Account)
      → early_survival table account (gain (10 * c) p r n) (cost (10 * c) n)
      ≡ early_survival table account (gain_in_hundredths c p r n) (cost_in_hundredths c n)
  unfolding early_survival annual_withdrawal cost cost_in_hundredths
  survival-in-hundredths table retail =
      rw (← fine-gain, ← old-gain)
      (ap survival (same_first (gain_of fine) (gain_of old) fine.cost old.cost table.otherwise (tenfold-reached old fine earned-tenfold (omega arith) (omega arith)) table.tiers))
  survival-in-hundredths table brokered =
      rw (← fine-gain, ← old-gain)
      (ap (λ (b : Bool). cond b 0 full_survival) (tenfold-above old fine earned-tenfold (omega arith) (omega arith)))

-- and the balance grows by the same
pub growth-in-hundredths : (c : ℕ) → coupon_growth * (10 * c) ≡ growth_in_hundredths c
unfolding growth_in_hundredths
growth-in-hundredths c = omega arith
