-- The tiers of an accepted filing, its own or the house's: their edges fall from the first on, so that the annual withdrawal is that of the highest edge
-- which is reached (01:50). Assumes nothing.
use Prim.Native.Nat.{ℕ, suc, ◌-◌, ◌<◌}
use mathlib.Core.Path.{◌≡◌}
use native.Mathlib.Omega.{arith}
use lib.Dec.{eqb}
use lib.IntN.{ℤ}
use lib.ListN.{get_or}
use Rattle.lists.proofs.TestLaws.{either}
use Rattle.withdrawal.specs.Tiers.{TierTable, Falling, Highest, tier, annual_withdrawal}
use Rattle.withdrawal.proofs.FallingLaws.{house-falling, falling-from}
use Rattle.withdrawal.proofs.HighestLaws.{highest-withdrawal}
use Rattle.filing_contents.specs.Contents.{Contents}
use Rattle.filing_contents.specs.declared.FiledTiers.{FiledTiers}
use Rattle.filing_contents.specs.Valid.{Valid}
use Rattle.withdrawal_filing.specs.FilingTiers.{own_tiers, tiers_of, filing_tiers}
use Rattle.withdrawal_filing.specs.Inner.FiledLimits.{FiledLimits}

-- from the top the edges that rise fall
pub own-falling : (t : FiledTiers) → FiledLimits t → Falling (own_tiers t).tiers
unfolding own_tiers tier
own-falling t limits = falling-from 0 t.count _ (λ i l u. below i (omega arith))
  where
    below : (i : ℕ) → suc i < t.count → get_or t.edges (t.count - 1 - suc i) 0 < get_or t.edges (t.count - 1 - i) 0
    below i u =
        let e : t.count - 1 - i ≡ suc (t.count - 1 - suc i) = omega arith in
        rw e (limits.edges-rise (t.count - 1 - suc i) (omega arith))

-- what an accepted filing carries is within the limits of its tiers
pub filed-limits : (k : Contents) → Valid k → FiledLimits k.tiers
filed-limits k v = record { count-le = v.tier-count-limit; edges-rise = v.edges-rise; withdrawal-le = v.withdrawal-limit }

pub filing-falling : (k : Contents) → Valid k → Falling (filing_tiers k).tiers
unfolding tiers_of
filing-falling k v =
    either (λ (x : TierTable). Falling x.tiers) (eqb k.tiers.count 0) house-falling (own-falling k.tiers (filed-limits k v))

-- tier i has the highest edge k with 100 × gain ≥ k × cost: the annual withdrawal is its own
pub filing-withdrawal : (k : Contents) → Valid k → (gain : ℤ) (cost i : ℕ) → Highest gain cost (filing_tiers k).tiers i
    → annual_withdrawal (filing_tiers k) gain cost ≡ (get_or (filing_tiers k).tiers i (tier 0 0)).withdrawal
filing-withdrawal k v gain cost i h = highest-withdrawal (filing_tiers k) gain cost (filing-falling k v) i h
