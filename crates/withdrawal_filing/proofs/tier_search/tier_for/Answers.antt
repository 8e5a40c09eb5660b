-- `tier_for` meets its contract. Assumes nothing.
use mathlib.Core.Path.{sym, ◌∙◌}
use Rattle.std.proofs.lemmas.Result.{err_from_is_err_and}
use Rattle.filing.proofs.ReadingLaws.{reading-valid}
use Rattle.withdrawal_filing.proofs.FilingTierLaws.{filed-limits}
use Rattle.withdrawal_filing.proofs.TierAnswerLaws.{small-of-test, refused-tier, large-tier, reached-tier}
use Rattle.withdrawal_filing.proofs.tier_search.tier_for.Goals as goal

pub returns-in_err-reading : goal.returns-in_err-reading
returns-in_err-reading c =
    let p = err_from_is_err_and c.from_residual.result c.from_residual.ensures.1 in
    record { answered = rw (p.1, p.2) (refused-tier _ _ _ c.in_err-reading.ensures.answered) }

pub returns-then-too_large : goal.returns-then-too_large
returns-then-too_large c =
    record { answered = large-tier _ _ c.in_ok-reading.ensures.answered (sym c.too_large.ensures ∙ c.if-too_large.true) }

pub tiers_of-requires : goal.tiers_of-requires
tiers_of-requires c = filed-limits _ (reading-valid _ _ _ c.in_ok-reading.ensures.answered c.in_ok-reading.ensures.said)

pub reached_tier-requires : goal.reached_tier-requires
reached_tier-requires c =
    (c.tiers_of.ensures.1, small-of-test _ (sym c.too_large.ensures ∙ c.if-too_large.false))

pub returns : goal.returns
returns c = record {
  answered = reached-tier _ _ c.in_ok-reading.ensures.answered (sym c.too_large.ensures ∙ c.if-too_large.false) _ _ c.in_ok-reading.ensures.said _ c.tiers_of.ensures.0 _
      c.reached_tier.ensures;
}
