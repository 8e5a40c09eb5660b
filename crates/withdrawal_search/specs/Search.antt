-- What the search in the edges of tiers answers (02:CR 2): edges in hundredths, in the first `count` entries of an array, highest first. Definitions only.
use Rattle.std.specs.Prelude.{ℕ, suc, ◌≡◌, cond, List, ltb, ℤ}
use Rattle.withdrawal.specs.Tiers.{Falling}
use Rattle.withdrawal.specs.Reached.{reached_tier}
use Rattle.withdrawal.specs.Inner.TierArrays.{tier_table_of}
use Rattle.withdrawal.specs.Inner.Levels.{FirstLevel}
use Rattle.withdrawal_search.specs.declared.ReachedLevel.{ReachedLevel}

-- the answer for a gain and a cost
pub record Searched (count : ℕ) (edges : List ℕ) (gain : ℤ) (cost : ℕ) (answer : ReachedLevel) : Type 0 where
  -- the first level that is reached, or the count where none is
  pub first : FirstLevel count edges gain cost answer.level
  -- the edges tried: one more than those before the level, or all where none is reached
  pub tried : answer.edges_tried ≡ cond (ltb answer.level count) (suc answer.level) count
  -- as many as request 2 counts in any tiers that have these edges, where they fall
  pub tried-is : (withdrawals : List ℕ) (otherwise : ℕ) → Falling (tier_table_of count edges withdrawals otherwise).tiers
      → answer.edges_tried ≡ (reached_tier (tier_table_of count edges withdrawals otherwise) gain cost).edges_tried
