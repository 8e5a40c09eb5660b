-- The ways out of the search in a filing's tiers. Assumes nothing.
use Prim.Native.Nat.{ℕ}
use mathlib.Core.Path.{◌≡◌, sym, ap, ◌∙◌}
use mathlib.Core.Bool.{true, false, ◌||◌}
use mathlib.Core.List.{List}
use borrow.Author.Tests.{ltb-false}
use lib.Dec.{ltb}
use Rattle.std.specs.Prelude.{Ok, Err}
use Rattle.answers.specs.declared.Refusal.{Refusal}
use Rattle.answers.specs.Answers.{number_of, location_of}
use Rattle.answers.specs.Verdict.{Verdict, accepted, refused}
use Rattle.answers.proofs.AnswerLaws.{refusal-refuses}
use Rattle.lists.proofs.TestLaws.{neither}
use Rattle.filing_contents.specs.Contents.{Contents}
use Rattle.filing.specs.Readings.{read_over}
use Rattle.filing.specs.Verdict.{filing_verdict}
use Rattle.filing.proofs.ReadingLaws.{reading-says}
use Rattle.withdrawal.specs.declared.Incentive.{Incentive}
use Rattle.withdrawal.specs.declared.ReachedTier.{ReachedTier}
use Rattle.withdrawal.specs.Tiers.{TierTable}
use Rattle.withdrawal.specs.Reached.{reached_tier}
use Rattle.withdrawal.specs.Inner.Incentives.{gain_limit, cost_limit, gain_of, Small}
use Rattle.withdrawal_filing.specs.declared.tier_search.NoTier.TheVariants.{Refused, TooLarge}
use Rattle.withdrawal_filing.specs.FilingTiers.{filing_tiers}
use Rattle.withdrawal_filing.specs.TierAnswers.{too_large, TierAnswered}

-- an incentive that is not too large is small
pub small-of-test : (x : Incentive) → too_large x ≡ false → Small x
unfolding too_large
small-of-test x e =
    let first = neither (ltb gain_limit x.earned) (ltb gain_limit x.forfeited || ltb cost_limit x.cost) e in
    let rest = neither (ltb gain_limit x.forfeited) (ltb cost_limit x.cost) first.1 in
    record { earned-le = ltb-false _ _ first.0; forfeited-le = ltb-false _ _ rest.0; cost-le = ltb-false _ _ rest.1 }

module _ (s : List ℕ) (x : Incentive) where
  pub refused-tier : (r : Refusal) → refused (number_of r) (location_of r) ≡ filing_verdict s → TierAnswered s x (Err (Refused r))
  unfolding TierAnswered accepted
  refused-tier r read = (read, λ a. refusal-refuses r (ap (λ (v : Verdict). v.number) (read ∙ a)))

  module _ (read : accepted ≡ filing_verdict s) where
    pub large-tier : too_large x ≡ true → TierAnswered s x (Err TooLarge)
    unfolding TierAnswered
    large-tier e = (sym read, e)

    pub reached-tier : too_large x ≡ false → (k before : Contents) → k ≡ read_over s before → (table : TierTable) → table ≡ filing_tiers k → (r : ReachedTier)
        → r ≡ reached_tier table (gain_of x) x.cost → TierAnswered s x (Ok r)
    unfolding TierAnswered
    reached-tier small k before said table is r found = (sym read, small, rw (is, reading-says s k before read said) at found)
