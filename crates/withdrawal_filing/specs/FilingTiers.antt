-- The withdrawal tiers of a filing (02:CR 1): its own, or the house's. Definitions only.
use Rattle.std.specs.Prelude.{ℕ, ◌-◌, cond, eqb, get_or}
use Rattle.lists.specs.Tables.{table}
use Rattle.filing_contents.specs.Contents.{Contents}
use Rattle.filing_contents.specs.declared.FiledTiers.{FiledTiers}
use Rattle.withdrawal.specs.Tiers.{TierTable, tier, house_tiers}

-- a filing's own tiers (02:CR 1), highest edge first. The first edge, 0, covers every lower ratio too, so the first withdrawal holds also where no edge
-- is reached
unfoldable pub own_tiers : FiledTiers → TierTable
own_tiers t =
    record {
      tiers = table t.count (λ (i : ℕ). tier (get_or t.edges (t.count - 1 - i) 0) (get_or t.withdrawals (t.count - 1 - i) 0));
      otherwise = get_or t.withdrawals 0 0;
    }

-- the tiers of what is filed: its own, or the house's where it has none
unfoldable pub tiers_of : FiledTiers → TierTable
tiers_of t = cond (eqb t.count 0) house_tiers (own_tiers t)

abbrev pub filing_tiers : Contents → TierTable
filing_tiers k = tiers_of k.tiers
