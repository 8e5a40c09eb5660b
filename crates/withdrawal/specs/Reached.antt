-- What the search in the tiers answers (02:CR 2). Definitions only.
use Rattle.std.specs.Prelude.{ℕ, ℤ}
use Rattle.withdrawal.specs.declared.ReachedTier.{ReachedTier}
use Rattle.withdrawal.specs.Tiers.{TierTable, annual_withdrawal, edge_count_tried}
use Rattle.withdrawal.specs.Survival.{survival}

-- the tier of a gain and a cost: its annual withdrawal, thousandths, the survival of that, billionths, and the number of edges tried
unfoldable pub reached_tier : TierTable → ℤ → ℕ → ReachedTier
reached_tier table gain cost =
    record {
      withdrawal = annual_withdrawal table gain cost;
      survival = survival (annual_withdrawal table gain cost);
      edges_tried = edge_count_tried table gain cost;
    }
