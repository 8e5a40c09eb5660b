-- What survives a month by the tiers that are lent: what stands at the level that the search ends at, and for usable tiers what the definitions say.
-- Assumes nothing.
use Prim.Native.Nat.{ℕ, ◌*◌, ◌≤◌, ◌<◌}
use mathlib.Core.Path.{◌≡◌, refl, sym, ap, ◌∙◌}
use mathlib.Core.Bool.{Bool, true, false, cond}
use mathlib.Core.List.{List, [], ◌∷◌, map}
use native.Mathlib.Nat.{mul-zero}
use borrow.Author.Tests.{lt-ltb, le-ltb}
use lib.Dec.{ltb}
use lib.IntN.{ℤ}
use lib.ListN.{get_or}
use Rattle.lists.specs.Tables.{table}
use Rattle.lists.proofs.TableLaws.{table-length, table-get_or, table-ext}
use Rattle.withdrawal.specs.declared.Incentive.{Incentive}
use Rattle.withdrawal.specs.declared.WithdrawalTiers.{WithdrawalTiers}
use Rattle.withdrawal.specs.Gain.{gain_scale, cost_scale, gain, cost}
use Rattle.withdrawal.specs.Tiers.{WithdrawalTier, tier, reached, first_reached, annual_withdrawal}
use Rattle.withdrawal.specs.Survival.{survival}
use Rattle.withdrawal.specs.MonthSurvival.{retail, early_survival}
use Rattle.withdrawal.specs.Inner.Incentives.{parts_of, incentive_from, gain_of}
use Rattle.withdrawal.specs.Inner.Levels.{FirstLevel}
use Rattle.withdrawal.specs.Inner.TierArrays.{tier_table, tier_table_of, held, Usable}
use Rattle.withdrawal.proofs.TierLaws.{level-withdrawal, first-level}
use Rattle.withdrawal.proofs.HeldLaws.{map-table, padded-holds}
use Rattle.intangible_months.specs.Inner.Lent.{lent_survival}

-- gain and cost without a penalty, as the code holds them
module _ (c r n : ℕ) where
  pub incentive-is : record { earned = gain_scale * (r * n); forfeited = 0; cost = cost_scale * c * n } ≡ incentive_from (parts_of c 0) r n
  unfolding parts_of incentive_from
  incentive-is = simp mul-zero

  incentive-gain : gain_of (incentive_from (parts_of c 0) r n) ≡ gain c 0 r n
  unfolding parts_of incentive_from gain_of gain
  incentive-gain = simp mul-zero

  incentive-cost : (incentive_from (parts_of c 0) r n).cost ≡ cost c n
  unfolding parts_of incentive_from cost
  incentive-cost = refl

-- a search over the incentive is one over gain and cost
pub searched : (count : ℕ) (edges : List ℕ) (c r n level : ℕ) {x : Incentive} → x ≡ incentive_from (parts_of c 0) r n
    → FirstLevel count edges (gain_of x) x.cost level → FirstLevel count edges (gain c 0 r n) (cost c n) level
searched count edges c r n level e first = rw (incentive-gain c r n, incentive-cost c r n) at (rw e at first)

-- the search ends at a level: what stands beside the edge there, or what survives where none is reached
module _ (count : ℕ) (edges survivals : List ℕ) (retained : ℕ) (g : ℤ) (c level : ℕ) (first : FirstLevel count edges g c level) where
  at_level : cond (ltb level count) (get_or (table count (λ (i : ℕ). get_or survivals i 0)) level 0) retained ≡ annual_withdrawal (tier_table_of count edges survivals retained) g c
  unfolding annual_withdrawal tier_table_of tier
  at_level =
      rw (
        first-level count edges survivals g c retained level first,
        table-length 0 count (λ (i : ℕ). tier (get_or edges i 0) (get_or survivals i 0)),
        map-table (λ (y : WithdrawalTier). y.withdrawal) 0 count (λ (i : ℕ). tier (get_or edges i 0) (get_or survivals i 0)),
      )
      at (level-withdrawal g c (λ (w : ℕ). w) retained (table count (λ (i : ℕ). tier (get_or edges i 0) (get_or survivals i 0))))

  pub lent-reached : level < count → get_or survivals level 0 ≡ annual_withdrawal (tier_table_of count edges survivals retained) g c
  lent-reached h = sym (table-get_or count (λ (i : ℕ). get_or survivals i 0) level 0 h) ∙ rw (lt-ltb level count h) at at_level

  pub lent-unreached : count ≤ level → retained ≡ annual_withdrawal (tier_table_of count edges survivals retained) g c
  lent-unreached h = rw (le-ltb level count h) at at_level

-- what a function makes of the withdrawals, picked by the edges
picked : (g : ℤ) (c : ℕ) (f : ℕ → ℕ) (otherwise : ℕ) (xs : List WithdrawalTier)
    → first_reached g c (f otherwise) (map (λ (x : WithdrawalTier). tier x.edge (f x.withdrawal)) xs) ≡ f (first_reached g c otherwise xs)
unfolding first_reached tier
picked g c f otherwise [] = refl
picked g c f otherwise (x ∷ xs) = rw (picked g c f otherwise xs) (by (reached g c x.edge) x.withdrawal (first_reached g c otherwise xs))
  where
    by : (b : Bool) (v w : ℕ) → cond b (f v) (f w) ≡ f (cond b v w)
    by true v w = refl
    by false v w = refl

-- usable tiers: their survivals stand beside their edges
module _ (t : WithdrawalTiers) (u : Usable t) where
  survival-beside : (i : ℕ) → i < t.count → get_or t.survivals i 0 ≡ survival (get_or t.withdrawals i 0)
  unfolding held tier_table tier_table_of tier
  survival-beside i h =
      ap (λ (x : WithdrawalTiers). get_or x.survivals i 0) u.held-is
      ∙ rw (map-table (λ (y : WithdrawalTier). survival y.withdrawal) 0 t.count (λ (j : ℕ). tier (get_or t.edges j 0) (get_or t.withdrawals j 0)))
      (padded-holds t.count (λ (j : ℕ). survival (get_or t.withdrawals j 0)) i h)

  retained-is : t.retained ≡ survival t.otherwise
  unfolding held tier_table tier_table_of
  retained-is = ap (λ (x : WithdrawalTiers). x.retained) u.held-is

  -- what survives is what the definitions say
  pub lent-survival : (cc r n : ℕ)
      → lent_survival t cc r n ≡ early_survival (tier_table t) retail (gain cc 0 r n) (cost cc n)
  unfolding lent_survival early_survival annual_withdrawal tier_table tier_table_of tier
  lent-survival cc r n =
      ap (λ (l : List WithdrawalTier). first_reached (gain cc 0 r n) (cost cc n) t.retained l)
      (table-ext t.count _ (λ (i : ℕ). tier (get_or t.edges i 0) (survival (get_or t.withdrawals i 0))) (λ i h. rw (survival-beside i h))
      ∙ sym (map-table (λ (x : WithdrawalTier). tier x.edge (survival x.withdrawal)) 0 t.count
      (λ (i : ℕ). tier (get_or t.edges i 0) (get_or t.withdrawals i 0))))
      ∙ rw retained-is (picked (gain cc 0 r n) (cost cc n) survival t.otherwise
      (table t.count (λ (i : ℕ). tier (get_or t.edges i 0) (get_or t.withdrawals i 0))))
