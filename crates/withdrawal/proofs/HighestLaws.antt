-- Tiers whose edges fall from the first on: the first that is reached is the one of document 01, with the highest edge that is reached, and the
-- edges tried up to it are one more than those above it. Assumes nothing.
use Prim.Native.Nat.{ℕ, zero, suc, ◌+◌, ◌-◌, ◌≤◌, ◌<◌, max}
use native.Mathlib.Nat.{not-suc-le-zero, le_of_suc-le-suc, le_refl, max-le, max-eq_left, zero-max}
use native.Mathlib.Omega.{arith}
use mathlib.Core.Path.{◌≡◌, refl, sym, ap, ◌∙◌}
use mathlib.Core.Bool.{Bool, true, false, cond, ◌||◌, true≢false}
use mathlib.Core.List.{List, [], ◌∷◌}
use borrow.Author.Tests.{lt-ltb, le-ltb}
use lib.Dec.{ltb, leb-zero, leb-suc-suc}
use lib.ListN.{length, get_or}
use lib.IntN.{ℤ}
use Rattle.lists.proofs.TableLaws.{table-length}
use Rattle.withdrawal.specs.Tiers.{WithdrawalTier, TierTable, Below, Falling, Highest, edge_at, tier, reached, first_reached, annual_withdrawal, some_reached, highest_reached, edges_above, edge_count_tried}
use Rattle.withdrawal.specs.Inner.TierArrays.{tier_table_of}
use Rattle.withdrawal.specs.Inner.Levels.{FirstLevel}
use Rattle.withdrawal.proofs.TierLaws.{level_reached, first-level}

cond-suc : (b : Bool) (p q : ℕ) → cond b (suc p) (suc q) ≡ suc (cond b p q)
cond-suc true p q = refl
cond-suc false p q = refl

max-lt : {a b edge : ℕ} → a < edge → b < edge → max a b < edge
max-lt {a} {b} {edge} l m =
    let most : max a b ≤ edge - 1 = max-le (omega arith) (omega arith) in
    omega arith

below_at : (edge : ℕ) (xs : List WithdrawalTier) → Below edge xs → (i : ℕ) → i < length xs → edge_at xs i < edge
below_at edge [] b i h = absurd (not-suc-le-zero h)
below_at edge (x ∷ xs) b zero h = b.0
below_at edge (x ∷ xs) b (suc i) h = below_at edge xs b.1 i (le_of_suc-le-suc h)

module _ (gain : ℤ) (cost : ℕ) where
  -- the first tier that is reached has the highest edge that is: edges fall, so that a reached tier before the one with the highest reached edge
  -- would have a higher one
  first-highest : (otherwise : ℕ) (xs : List WithdrawalTier) → Falling xs → (i : ℕ) → Highest gain cost xs i
      → first_reached gain cost otherwise xs ≡ (get_or xs i (tier 0 0)).withdrawal
  unfolding first_reached
  first-highest otherwise [] f i h = absurd (not-suc-le-zero h.among)
  first-highest otherwise (x ∷ xs) f zero h = simp h.is-reached
  first-highest otherwise (x ∷ xs) f (suc i) h =
      by (reached gain cost x.edge) refl
      (first-highest otherwise xs f.1 i
      (record {
        among = le_of_suc-le-suc h.among;
        is-reached = h.is-reached;
        none-higher = λ j l. h.none-higher (suc j) (omega arith);
      }))
    where
      by : (b : Bool) → reached gain cost x.edge ≡ b
          → first_reached gain cost otherwise xs ≡ (get_or xs i (tier 0 0)).withdrawal
          → cond b x.withdrawal (first_reached gain cost otherwise xs) ≡ (get_or xs i (tier 0 0)).withdrawal
      by true e rest =
          let above = below_at x.edge xs f.0 i (le_of_suc-le-suc h.among) in
          let least = h.none-higher 0 (omega arith) e in
          absurd (omega arith)
      by false e rest = rest

  -- where none is reached, the withdrawal is the other
  first-none : (otherwise : ℕ) (xs : List WithdrawalTier) → some_reached gain cost xs ≡ false → first_reached gain cost otherwise xs ≡ otherwise
  unfolding first_reached some_reached
  first-none otherwise [] n = refl
  first-none otherwise (x ∷ xs) n = by (reached gain cost x.edge) n (first-none otherwise xs)
    where
      by : (b : Bool) → (b || some_reached gain cost xs) ≡ false → (some_reached gain cost xs ≡ false → first_reached gain cost otherwise xs ≡ otherwise)
          → cond b x.withdrawal (first_reached gain cost otherwise xs) ≡ otherwise
      by true n rest = absurd (true≢false n)
      by false n rest = rest n

  -- edges that are below one: so is the highest of them that is reached, and none of them is above it
  highest-lt : (edge : ℕ) (xs : List WithdrawalTier) → Below edge xs → 0 < edge → highest_reached gain cost xs < edge
  unfolding highest_reached
  highest-lt edge [] b p = p
  highest-lt edge (x ∷ xs) b p = by (reached gain cost x.edge) (highest_reached gain cost xs) (highest-lt edge xs b.1 p)
    where
      by : (r : Bool) (h : ℕ) → h < edge → max (cond r x.edge 0) h < edge
      by true h l = max-lt b.0 l
      by false h l = max-lt p l

  highest-le : (edge : ℕ) (xs : List WithdrawalTier) → Below edge xs → highest_reached gain cost xs ≤ edge
  unfolding highest_reached
  highest-le edge [] b = omega arith
  highest-le edge (x ∷ xs) b = by (reached gain cost x.edge) (highest_reached gain cost xs) (highest-le edge xs b.1)
    where
      by : (r : Bool) (h : ℕ) → h ≤ edge → max (cond r x.edge 0) h ≤ edge
      by true h l = max-le (omega (arith, b.0)) l
      by false h l = max-le (omega arith) l

  above-none : (edge : ℕ) (xs : List WithdrawalTier) → Below edge xs → edges_above edge xs ≡ 0
  unfolding edges_above
  above-none edge [] b = refl
  above-none edge (x ∷ xs) b =
      let under : x.edge ≤ edge = omega (arith, b.0) in
      rw (le-ltb edge x.edge under, above-none edge xs b.1)

  some-pos : (edge : ℕ) (xs : List WithdrawalTier) → Below edge xs → some_reached gain cost xs ≡ true → 0 < edge
  unfolding some_reached
  some-pos edge [] b n = absurd (true≢false (sym n))
  some-pos edge (x ∷ xs) b n = omega (arith, b.0)

  -- the edges tried, by the level that is reached: where the first is reached no edge is above it, and one is tried; else one more is tried than
  -- among the others, all of which lie below it
  tried-level : (xs : List WithdrawalTier) → Falling xs
      → cond (some_reached gain cost xs) (suc (edges_above (highest_reached gain cost xs) xs)) (length xs)
      ≡ cond (ltb (level_reached gain cost xs) (length xs)) (suc (level_reached gain cost xs)) (length xs)
  unfolding some_reached highest_reached edges_above level_reached
  tried-level [] f = refl
  tried-level (x ∷ xs) f =
      by (reached gain cost x.edge) (some_reached gain cost xs) (level_reached gain cost xs) (highest_reached gain cost xs)
      (highest-le x.edge xs f.0) (λ e. highest-lt x.edge xs f.0 (some-pos x.edge xs f.0 e)) (tried-level xs f.1)
    where
      by : (r s : Bool) (i h : ℕ) → h ≤ x.edge → (s ≡ true → h < x.edge)
          → cond s (suc (edges_above h xs)) (length xs) ≡ cond (ltb i (length xs)) (suc i) (length xs)
          → cond (r || s)
          (suc (cond (ltb (max (cond r x.edge 0) h) x.edge) 1 0 + edges_above (max (cond r x.edge 0) h) xs))
          (suc (length xs))
          ≡ cond (ltb (cond r 0 (suc i)) (suc (length xs))) (suc (cond r 0 (suc i))) (suc (length xs))
      by true s i h l m same =
          rw (max-eq_left l, le-ltb x.edge x.edge (le_refl x.edge), above-none x.edge xs f.0, leb-suc-suc, leb-zero)
      by false true i h l m same = rw (zero-max, lt-ltb h x.edge (m refl), leb-suc-suc, cond-suc, ← same) (omega arith)
      by false false i h l m same = rw leb-suc-suc (ap suc same ∙ sym (cond-suc (ltb i (length xs)) (suc i) (length xs)))

-- For any tiers that load: the withdrawal is that of the highest edge that is reached (01:50), and the other where none is
module _ (table : TierTable) (gain : ℤ) (cost : ℕ) where
  pub highest-withdrawal : Falling table.tiers → (i : ℕ) → Highest gain cost table.tiers i
      → annual_withdrawal table gain cost ≡ (get_or table.tiers i (tier 0 0)).withdrawal
  unfolding annual_withdrawal
  highest-withdrawal f i h = first-highest gain cost table.otherwise table.tiers f i h

  none-withdrawal : some_reached gain cost table.tiers ≡ false → annual_withdrawal table gain cost ≡ table.otherwise
  unfolding annual_withdrawal
  none-withdrawal n = first-none gain cost table.otherwise table.tiers n

  -- the edges tried, by the level that is reached
  pub edges-tried : Falling table.tiers
      → edge_count_tried table gain cost
      ≡ cond (ltb (level_reached gain cost table.tiers) (length table.tiers)) (suc (level_reached gain cost table.tiers)) (length table.tiers)
  unfolding edge_count_tried
  edges-tried f = tried-level gain cost table.tiers f

tiers-count : (count : ℕ) (edges withdrawals : List ℕ) (otherwise : ℕ) → length (tier_table_of count edges withdrawals otherwise).tiers ≡ count
unfolding tier_table_of
tiers-count count edges withdrawals otherwise = table-length 0 count _

-- and by the first level that is reached of edges in an array, whatever the withdrawals
pub level-tried : (count : ℕ) (edges : List ℕ) (gain : ℤ) (cost i : ℕ) → FirstLevel count edges gain cost i → (withdrawals : List ℕ) (otherwise : ℕ)
    → Falling (tier_table_of count edges withdrawals otherwise).tiers
    → edge_count_tried (tier_table_of count edges withdrawals otherwise) gain cost ≡ cond (ltb i count) (suc i) count
level-tried count edges gain cost i f withdrawals otherwise falls =
    edges-tried (tier_table_of count edges withdrawals otherwise) gain cost falls
    ∙ rw (first-level count edges withdrawals gain cost otherwise i f, tiers-count count edges withdrawals otherwise)
