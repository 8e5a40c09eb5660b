-- Tiers in arrays, with the survival of each withdrawal beside it. Assumes nothing.
use Prim.Native.Nat.{ℕ, zero, suc, ◌+◌, ◌-◌, ◌≤◌, ◌<◌}
use mathlib.Core.Path.{◌≡◌, refl, sym, ap, ◌∙◌}
use mathlib.Core.Bool.{Bool, true, false, cond}
use mathlib.Core.List.{List, map}
use borrow.Author.Tests.{ltb-true}
use native.Mathlib.Omega.{arith}
use lib.Dec.{T, leb, ltb, leb→le}
use lib.ListN.{length, get_or, set, drop, replicate, length-map, take-append-drop, get_or-append}
use lib.Seq.{drop-set-lt, drop-drop}
use lib.IntN.{ℤ}
use Rattle.lists.specs.Tables.{table_from, table, padded}
use Rattle.lists.proofs.TableLaws.{table-length, table-get_or, table-ext, table-le, append-le, zeros-get_or}
use Rattle.lists.proofs.FillLaws.{Filled, fill_none, fill_more, fill-first}
use Rattle.lists.proofs.TestLaws.{every_entry, entries-le}
use Rattle.withdrawal.specs.declared.WithdrawalTiers.{WithdrawalTiers}
use Rattle.withdrawal.specs.Survival.{survival, full_survival}
use Rattle.form.specs.Limits.{tier_limit, edge_limit, withdrawal_limit}
use Rattle.withdrawal.specs.declared.ReachedTier.{ReachedTier}
use Rattle.withdrawal.specs.Tiers.{WithdrawalTier, TierTable, Falling, tier, annual_withdrawal}
use Rattle.withdrawal.specs.Reached.{reached_tier}
use Rattle.withdrawal.specs.Inner.TierArrays.{tier_table, tier_table_of, with_survivals, tier_array, held, withdrawal_at, survival_at, TiersFit, Usable}
use Rattle.withdrawal.specs.Inner.Levels.{FirstLevel}
use Rattle.withdrawal.proofs.TierLaws.{level_reached, level-withdrawal, first-level}
use Rattle.withdrawal.proofs.HighestLaws.{edges-tried}
use Rattle.withdrawal.proofs.SurvivalLaws.{survival-le}

-- an array of which the first i entries hold f 0, f 1, .., f (i - 1) and the others 0
pub record Stored (f : ℕ → ℕ) (i : ℕ) (l : List ℕ) : Type 0 where
  pub within : i ≤ tier_limit
  pub filled : Filled f 0 tier_limit i l
  pub rest : drop i l ≡ replicate (tier_limit - i) 0

fewer-zeros : (n : ℕ) → ◌≡◌ {A = List ℕ} (drop 1 (replicate n 0)) (replicate (n - 1) 0)
fewer-zeros zero = refl
fewer-zeros (suc n) = let e : suc n - 1 ≡ n = omega arith in rw e

module _ (f : ℕ → ℕ) where
  pub stored-none : Stored f 0 (replicate tier_limit 0)
  stored-none = record { within = omega arith; filled = fill_none f 0 0 tier_limit; rest = refl }

  -- entry i is set to f i, and the zeros behind it are one fewer
  pub stored_more : (i : ℕ) (l : List ℕ) (a : ℕ) → i < tier_limit → a ≡ f i → Stored f i l → Stored f (i + 1) (set l i a)
  stored_more i l a h e s =
      record {
        within = omega arith;
        filled = fill_more f 0 tier_limit i l a h e s.filled;
        rest =
            let e : tier_limit - i - 1 ≡ tier_limit - (i + 1) = omega arith in
            drop-set-lt (i + 1) l i a (omega arith) ∙ (rw drop-drop at (ap (drop 1) s.rest)) ∙ rw e at (fewer-zeros (tier_limit - i));
      }

  pub stored-all : (n : ℕ) (l : List ℕ) → Stored f n l → l ≡ tier_array (table n f)
  unfolding padded
  stored-all n l s = sym (take-append-drop n l) ∙ rw (fill-first f 0 tier_limit n l s.within s.filled, s.rest, table-length 0 n f)

-- what is read at an index of the list, or something else past its end
padded-at : (xs : List ℕ) (i n otherwise : ℕ) → length xs ≡ n → cond (ltb i n) (get_or (tier_array xs) i 0) otherwise ≡ cond (ltb i n) (get_or xs i 0) otherwise
unfolding padded
padded-at xs i n otherwise e = by (ltb i n) refl
  where
    by : (b : Bool) → ltb i n ≡ b → cond b (get_or (tier_array xs) i 0) otherwise ≡ cond b (get_or xs i 0) otherwise
    by true t = get_or-append xs _ 0 i (rw e (ltb-true i n t))
    by false t = refl

module _ (gain : ℤ) (cost : ℕ) where
  -- what a function makes of the withdrawals, at the level that is reached: what it makes of the annual withdrawal
  held_at : (f : ℕ → ℕ) (x : TierTable)
      → cond (ltb (level_reached gain cost x.tiers) (length x.tiers))
      (get_or (tier_array (map (λ (y : WithdrawalTier). f y.withdrawal) x.tiers)) (level_reached gain cost x.tiers) 0)
      (f x.otherwise)
      ≡ f (annual_withdrawal x gain cost)
  unfolding annual_withdrawal
  held_at f x =
      padded-at (map (λ (y : WithdrawalTier). f y.withdrawal) x.tiers) (level_reached gain cost x.tiers) (length x.tiers)
      (f x.otherwise) (length-map x.tiers _)
      ∙ level-withdrawal gain cost f x.otherwise x.tiers

-- what the code's arrays hold at an index, as the search answers it
unfoldable answer_at : WithdrawalTiers → ℕ → ReachedTier
answer_at t i =
    record {
      withdrawal = withdrawal_at t i;
      survival = survival_at t i;
      edges_tried = cond (ltb i t.count) (suc i) t.count;
    }

held-answer : (x : TierTable) (gain : ℤ) (cost : ℕ) → Falling x.tiers → answer_at (held x) (level_reached gain cost x.tiers) ≡ reached_tier x gain cost
unfolding answer_at withdrawal_at survival_at held reached_tier
held-answer x gain cost f = rw (held_at gain cost (λ (w : ℕ). w) x, held_at gain cost survival x, edges-tried x gain cost f)

-- the search ends at level i, of a tier or past the last, with as many edges tried
module _ (t : WithdrawalTiers) (gain : ℤ) (cost i tried : ℕ) (u : Usable t) (first : FirstLevel t.count t.edges gain cost i)
    (as_many : tried ≡ cond (ltb i t.count) (suc i) t.count) where
  ends : level_reached gain cost (tier_table t).tiers ≡ i
  unfolding tier_table
  ends = first-level t.count t.edges t.withdrawals gain cost t.otherwise i first

  -- what stands there is the answer of the definitions
  answer-is : answer_at t i ≡ reached_tier (tier_table t) gain cost
  answer-is =
      rw (← ends)
      (ap (λ (x : WithdrawalTiers). answer_at x (level_reached gain cost (tier_table t).tiers)) u.held-is
      ∙ held-answer (tier_table t) gain cost u.falling)

  pub level-answer : record { withdrawal = withdrawal_at t i; survival = survival_at t i; edges_tried = tried } ≡ reached_tier (tier_table t) gain cost
  unfolding answer_at
  level-answer = rw as_many answer-is

-- tiers that pass the tests of their count, edges and withdrawals fit
pub tiers-fit-of-tests :
    (count : ℕ) (edges withdrawals : List ℕ) (otherwise : ℕ)
    → T (leb count tier_limit)
    → T (every_entry (λ i x. leb x edge_limit) edges)
    → T (every_entry (λ i x. leb x withdrawal_limit) withdrawals)
    → T (leb otherwise withdrawal_limit)
    → TiersFit count edges withdrawals otherwise
tiers-fit-of-tests count edges withdrawals otherwise n e w o =
    record {
      edges_fit = record { count-le = leb→le count tier_limit n; edge-le = entries-le edges edge_limit e };
      withdrawal-le = entries-le withdrawals withdrawal_limit w;
      otherwise-le = leb→le otherwise withdrawal_limit o;
    }

-- tiers that fit, with their survivals, are usable where the arrays hold nothing but them and the edges fall
pub fit-usable : (count : ℕ) (edges withdrawals : List ℕ) (otherwise : ℕ) → TiersFit count edges withdrawals otherwise
    → with_survivals count edges withdrawals otherwise ≡ held (tier_table_of count edges withdrawals otherwise)
    → Falling (tier_table_of count edges withdrawals otherwise).tiers
    → Usable (with_survivals count edges withdrawals otherwise)
unfolding tier_table with_survivals
fit-usable count edges withdrawals otherwise fit e f = record { edges_fit = fit.edges_fit; held-is = e; falling = f }

-- a function over a table is the table of what it makes
pub map-table : {A B : Type 0} (f : A → B) (s n : ℕ) (g : ℕ → A) → map f (table_from s n g) ≡ table_from s n (λ (i : ℕ). f (g i))
unfolding table_from
map-table f s zero g = refl
map-table f s (suc n) g = rw (map-table f (suc s) n g)

-- what the entries of a table hold
pub padded-holds : (n : ℕ) (f : ℕ → ℕ) (i : ℕ) → i < n → get_or (tier_array (table n f)) i 0 ≡ f i
unfolding padded
padded-holds n f i h = get_or-append (table n f) _ 0 i (rw (table-length 0 n f) h) ∙ table-get_or n f i 0 h

-- what bounds a table bounds its entries
pub padded-le : (n : ℕ) (f : ℕ → ℕ) (b : ℕ) → ((i : ℕ) → f i ≤ b) → (i : ℕ) → get_or (tier_array (table n f)) i 0 ≤ b
unfolding padded
padded-le n f b h =
    append-le (table n f) (replicate (tier_limit - length (table n f)) 0) b (table-le 0 n f b (λ j l u. h j))
    (λ i. omega (arith, zeros-get_or (tier_limit - length (table n f)) i))

-- tiers whose edges and withdrawals stand in the first `count` entries and 0s in the others: the table that they make, and that they are usable
module _ (count otherwise : ℕ) (edge withdrawal : ℕ → ℕ) where
  abbrev edges : List ℕ
  edges = tier_array (table count edge)

  abbrev withdrawals : List ℕ
  withdrawals = tier_array (table count withdrawal)

  pub padded-table : tier_table (with_survivals count edges withdrawals otherwise)
      ≡ record { tiers = table count (λ (i : ℕ). tier (edge i) (withdrawal i)); otherwise = otherwise }
  unfolding tier_table tier_table_of with_survivals
  padded-table =
      ap (λ (xs : List WithdrawalTier). record { tiers = xs; otherwise = otherwise })
      (table-ext count _ _ (λ i h. rw (padded-holds count edge i h, padded-holds count withdrawal i h)))

  -- the first `count` entries of both arrays are those of the table, so that the held tiers are made of the same lists
  padded-held : with_survivals count edges withdrawals otherwise ≡ held (tier_table_of count edges withdrawals otherwise)
  unfolding with_survivals held tier_table_of tier
  padded-held =
      rw (
        table-length 0 count (λ (i : ℕ). tier (get_or edges i 0) (get_or withdrawals i 0)),
        map-table (λ (y : WithdrawalTier). y.edge) 0 count (λ (i : ℕ). tier (get_or edges i 0) (get_or withdrawals i 0)),
        map-table (λ (y : WithdrawalTier). y.withdrawal) 0 count (λ (i : ℕ). tier (get_or edges i 0) (get_or withdrawals i 0)),
        map-table (λ (y : WithdrawalTier). survival y.withdrawal) 0 count (λ (i : ℕ). tier (get_or edges i 0) (get_or withdrawals i 0)),
        table-ext count (λ (i : ℕ). get_or edges i 0) edge (padded-holds count edge),
        table-ext count (λ (i : ℕ). get_or withdrawals i 0) withdrawal (padded-holds count withdrawal),
      )

  pub padded-usable : TiersFit count edges withdrawals otherwise → Falling (table count (λ (i : ℕ). tier (edge i) (withdrawal i)))
      → Usable (with_survivals count edges withdrawals otherwise)
  unfolding tier_table tier_table_of with_survivals
  padded-usable fit f =
      fit-usable count edges withdrawals otherwise fit padded-held (rw (ap (λ (x : TierTable). x.tiers) padded-table) f)

-- no survival that usable tiers hold is above the whole
pub survivals-le : (t : WithdrawalTiers) → Usable t → (i : ℕ) → get_or t.survivals i 0 ≤ full_survival
unfolding held tier_table tier_table_of
survivals-le t u i =
    rw (ap (λ (x : WithdrawalTiers). x.survivals) u.held-is, map-table (λ (y : WithdrawalTier). survival y.withdrawal) 0 t.count _)
    (padded-le t.count _ full_survival (λ j. survival-le _) i)

pub retained-le : (t : WithdrawalTiers) → Usable t → t.retained ≤ full_survival
unfolding held
retained-le t u = rw (ap (λ (x : WithdrawalTiers). x.retained) u.held-is) (survival-le _)
