-- The tiers that the code's arrays hold. Definitions only.
use Rattle.std.specs.Prelude.{ℕ, ◌≤◌, ◌≡◌, cond, ltb, List, map, length, get_or}
use Rattle.lists.specs.Tables.{table, padded}
use Rattle.withdrawal.specs.declared.WithdrawalTiers.{WithdrawalTiers}
use Rattle.form.specs.Limits.{tier_limit, edge_limit, withdrawal_limit}
use Rattle.withdrawal.specs.Tiers.{WithdrawalTier, TierTable, Falling, tier}
use Rattle.withdrawal.specs.Survival.{survival}

-- tiers of which the first `count` entries of two arrays have edge and withdrawal, highest edge first
unfoldable pub tier_table_of : ℕ → List ℕ → List ℕ → ℕ → TierTable
tier_table_of count edges withdrawals otherwise =
    record { tiers = table count (λ i. tier (get_or edges i 0) (get_or withdrawals i 0)); otherwise = otherwise }

-- the tiers that the code holds
unfoldable pub tier_table : WithdrawalTiers → TierTable
tier_table t = tier_table_of t.count t.edges t.withdrawals t.otherwise

-- the numbers of a list in an array for the most tiers: 0 past the last
abbrev pub tier_array : List ℕ → List ℕ
tier_array xs = padded tier_limit 0 xs

-- arrays of edges and withdrawals, with the survivals of the first `count` withdrawals beside them, billionths
unfoldable pub with_survivals : ℕ → List ℕ → List ℕ → ℕ → WithdrawalTiers
with_survivals count edges withdrawals otherwise =
    record {
      count = count;
      edges = edges;
      withdrawals = withdrawals;
      survivals = tier_array (table count (λ i. survival (get_or withdrawals i 0)));
      otherwise = otherwise;
      retained = survival otherwise;
    }

-- the arrays that hold tiers and nothing else
unfoldable pub held : TierTable → WithdrawalTiers
held x =
    record {
      count = length x.tiers;
      edges = tier_array (map (λ (y : WithdrawalTier). y.edge) x.tiers);
      withdrawals = tier_array (map (λ (y : WithdrawalTier). y.withdrawal) x.tiers);
      survivals = tier_array (map (λ (y : WithdrawalTier). survival y.withdrawal) x.tiers);
      otherwise = x.otherwise;
      retained = survival x.otherwise;
    }

-- at a level, counted from 0: the annual withdrawal, thousandths, and what survives a month, billionths; past the last tier those where no edge is reached
unfoldable pub withdrawal_at : WithdrawalTiers → ℕ → ℕ
withdrawal_at t level = cond (ltb level t.count) (get_or t.withdrawals level 0) t.otherwise

unfoldable pub survival_at : WithdrawalTiers → ℕ → ℕ
survival_at t level = cond (ltb level t.count) (get_or t.survivals level 0) t.retained

-- edges in an array, within the limits of count and edge
pub record EdgesFit (count : ℕ) (edges : List ℕ) : Type 0 where
  pub count-le : count ≤ tier_limit
  pub edge-le : (i : ℕ) → get_or edges i 0 ≤ edge_limit

-- arrays that hold tiers within the limits of count, edge and withdrawal
pub record TiersFit (count : ℕ) (edges withdrawals : List ℕ) (otherwise : ℕ) : Type 0 where
  pub edges_fit : EdgesFit count edges
  pub withdrawal-le : (i : ℕ) → get_or withdrawals i 0 ≤ withdrawal_limit
  pub otherwise-le : otherwise ≤ withdrawal_limit

-- tiers that can be searched: the arrays hold them and nothing else, and their edges fall
pub record Usable (t : WithdrawalTiers) : Type 0 where
  pub edges_fit : EdgesFit t.count t.edges
  pub held-is : t ≡ held (tier_table t)
  pub falling : Falling (tier_table t).tiers
