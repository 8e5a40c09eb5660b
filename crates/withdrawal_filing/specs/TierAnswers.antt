-- The search in a filing's withdrawal tiers by itself (02:CR 2). Definitions only.
use Rattle.std.specs.Prelude.{ℕ, ◌≡◌, Bool, true, false, ◌||◌, Result, Ok, Err, List, ltb}
use Rattle.answers.specs.Verdict.{refused}
use Rattle.answers.specs.Answers.{number_of, location_of}
use Rattle.filing_decode.specs.Contents.{contents_of}
use Rattle.filing.specs.Verdict.{filing_verdict, Accepted}
use Rattle.withdrawal.specs.declared.Incentive.{Incentive}
use Rattle.withdrawal.specs.declared.ReachedTier.{ReachedTier}
use Rattle.withdrawal.specs.Reached.{reached_tier}
use Rattle.withdrawal.specs.Inner.Incentives.{gain_limit, cost_limit, gain_of}
use Rattle.withdrawal_filing.specs.declared.tier_search.NoTier.{NoTier}
use Rattle.withdrawal_filing.specs.declared.tier_search.NoTier.TheVariants.{Refused, TooLarge}
use Rattle.withdrawal_filing.specs.FilingTiers.{filing_tiers}

-- a part of the gain, or the cost, is above its limit
unfoldable pub too_large : Incentive → Bool
too_large x = ltb gain_limit x.earned || (ltb gain_limit x.forfeited || ltb cost_limit x.cost)

-- the answer on a filing and an incentive: the filing's refusal; none where the incentive is too large; else the tier of the filing's tiers
unfoldable pub TierAnswered : List ℕ → Incentive → Result ReachedTier NoTier → Type 0
TierAnswered s x (Ok tier) = Accepted s × (too_large x ≡ false) × (tier ≡ reached_tier (filing_tiers (contents_of s)) (gain_of x) x.cost)
TierAnswered s x (Err (Refused r)) = (refused (number_of r) (location_of r) ≡ filing_verdict s) × (Accepted s → ⊥)
TierAnswered s x (Err TooLarge) = Accepted s × (too_large x ≡ true)
