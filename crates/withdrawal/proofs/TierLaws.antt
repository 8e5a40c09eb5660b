-- The first tier that is reached, by its level: the tiers are tried one after the other from the highest edge. Assumes nothing.
use Prim.Native.Nat.{ℕ, zero, suc, ◌+◌, ◌-◌, ◌≤◌, ◌<◌}
use mathlib.Core.Path.{◌≡◌, refl, sym, ◌∙◌}
use mathlib.Core.Logic.{⊎_elim}
use mathlib.Core.Bool.{Bool, true, false, cond}
use mathlib.Core.List.{List, [], ◌∷◌, map}
use native.Mathlib.Nat.{zero-add, add-zero, lt-suc_self, le_of_suc-le-suc, eq-or-lt_of_le}
use native.Mathlib.Numerals.{add-one}
use native.Mathlib.Omega.{arith}
use lib.Dec.{ltb, leb-zero, leb-suc-suc}
use lib.ListN.{length, get_or}
use lib.IntN.{ℤ}
use Rattle.lists.specs.Tables.{table_from}
use Rattle.withdrawal.specs.Tiers.{WithdrawalTier, tier, reached, first_reached}
use Rattle.withdrawal.specs.Inner.TierArrays.{tier_table_of}
use Rattle.withdrawal.specs.Inner.Levels.{Unreached, FirstLevel}

module _ (gain : ℤ) (cost : ℕ) where
  -- the level of the first tier that is reached, counted from 0; the tiers' count where none is
  unfoldable pub level_reached : List WithdrawalTier → ℕ
  level_reached [] = 0
  level_reached (x ∷ xs) = cond (reached gain cost x.edge) 0 (suc (level_reached xs))

  -- what a function makes of the withdrawal there is what it makes of the first tier's that is reached: level 0 where the first is, else one
  -- more than among the others
  pub level-withdrawal : (f : ℕ → ℕ) (otherwise : ℕ) (xs : List WithdrawalTier)
      → cond (ltb (level_reached xs) (length xs)) (get_or (map (λ (x : WithdrawalTier). f x.withdrawal) xs) (level_reached xs) 0)
      (f otherwise)
      ≡ f (first_reached gain cost otherwise xs)
  unfolding level_reached first_reached
  level-withdrawal f otherwise [] = refl
  level-withdrawal f otherwise (x ∷ xs) = by (reached gain cost x.edge) (level_reached xs) (level-withdrawal f otherwise xs)
    where
      fs : List ℕ
      fs = map (λ (y : WithdrawalTier). f y.withdrawal) xs

      by : (b : Bool) (i : ℕ) → cond (ltb i (length xs)) (get_or fs i 0) (f otherwise) ≡ f (first_reached gain cost otherwise xs)
          → cond (ltb (cond b 0 (suc i)) (suc (length xs))) (get_or (f x.withdrawal ∷ fs) (cond b 0 (suc i)) 0) (f otherwise)
          ≡ f (cond b x.withdrawal (first_reached gain cost otherwise xs))
      by true i h = rw (leb-suc-suc, leb-zero)
      by false i h = rw leb-suc-suc h

-- one level more
pub unreached-more : (edges : List ℕ) (gain : ℤ) (cost level : ℕ) → Unreached edges gain cost level → reached gain cost (get_or edges level 0) ≡ false
    → Unreached edges gain cost (level + 1)
unreached-more edges gain cost level u e i h =
    ⊎_elim (λ q. rw q e) (u i) (eq-or-lt_of_le (le_of_suc-le-suc (rw add-one at h)))

-- edges and withdrawals in arrays, highest edge first
module _ (count : ℕ) (edges withdrawals : List ℕ) (gain : ℤ) (cost : ℕ) where
  -- the level that is reached by a search which goes on from level i
  unfoldable level_from : ℕ → ℕ
  level_from i = i + level_reached gain cost (table_from i (count - i) (λ (j : ℕ). tier (get_or edges j 0) (get_or withdrawals j 0)))

  -- an edge that is reached ends it
  level-from-reached : (i : ℕ) → i < count → reached gain cost (get_or edges i 0) ≡ true → level_from i ≡ i
  unfolding level_from table_from level_reached tier
  level-from-reached i h e =
      let m : count - i ≡ suc (count - suc i) = omega arith in
      rw (m, e, add-zero)

  -- an edge that is not reached leaves it to the next tiers
  level-from-suc : (i : ℕ) → i < count → reached gain cost (get_or edges i 0) ≡ false → level_from i ≡ level_from (i + 1)
  unfolding level_from table_from level_reached tier
  level-from-suc i h e =
      let m : count - i ≡ suc (count - suc i) = omega arith in
      rw (add-one, m, e) (omega arith)

  -- past the last tier: none is reached
  level-from-end : (i : ℕ) → count ≤ i → level_from i ≡ i
  unfolding level_from table_from level_reached
  level-from-end i h =
      let m : count - i ≡ 0 = omega arith in
      rw (m, add-zero)

  -- from the first tier on it is all of them that are tried
  level-from-start : (otherwise : ℕ) → level_from 0 ≡ level_reached gain cost (tier_table_of count edges withdrawals otherwise).tiers
  unfolding level_from tier_table_of
  level-from-start otherwise = let m : count - 0 ≡ count = omega arith in rw (m, zero-add)

  -- where no edge before a level is reached, the tiers from there on decide
  unreached-from : (i : ℕ) → i ≤ count → Unreached edges gain cost i → level_from 0 ≡ level_from i
  unreached-from zero h u = refl
  unreached-from (suc i) h u =
      let e : suc i ≡ i + 1 = omega arith in
      unreached-from i (omega arith) (λ j l. u j (omega arith)) ∙ rw e (level-from-suc i h (u i (lt-suc_self i)))

  -- the first level whose edge is reached
  pub first-level : (otherwise i : ℕ) → FirstLevel count edges gain cost i → level_reached gain cost (tier_table_of count edges withdrawals otherwise).tiers ≡ i
  first-level otherwise i f =
      sym (level-from-start otherwise)
      ∙ unreached-from i f.within f.before
      ∙ ⊎_elim (λ e. level-from-end i (omega arith)) (λ l. level-from-reached i l (f.here l)) (eq-or-lt_of_le f.within)
