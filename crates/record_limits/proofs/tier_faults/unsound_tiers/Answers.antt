-- `unsound_tiers` meets its contract: each test of the code is the definition's.
-- Assumes nothing.
use borrow.Author.Tests.{lt-ltb, le-ltb, eq-eqb, ne_eqb}
use Rattle.record_kinds.specs.Kinds.{tiers_kind}
use Rattle.record_limits.specs.TierFaults.{unsound_tiers}
use Rattle.record_limits.proofs.tier_faults.unsound_tiers.Goals as goal

pub returns-then-record_kind-ne-TIERS_KIND : goal.returns-then-record_kind-ne-TIERS_KIND
unfolding unsound_tiers
returns-then-record_kind-ne-TIERS_KIND c = rw (← c.record_kind.ensures) (simp (ne_eqb _ tiers_kind c.if-record_kind-ne-TIERS_KIND.true))

pub returns-then-count-lt1 : goal.returns-then-count-lt1
unfolding unsound_tiers
returns-then-count-lt1 c =
    rw (← c.record_kind.ensures, ← c.tier_count-count.ensures)
    (simp (eq-eqb _ tiers_kind c.if-record_kind-ne-TIERS_KIND.false, lt-ltb _ 1 c.if-count-lt1.true))

pub returns-then-count-gt-MOST_TIERS : goal.returns-then-count-gt-MOST_TIERS
unfolding unsound_tiers
returns-then-count-gt-MOST_TIERS c =
    rw (← c.record_kind.ensures, ← c.tier_count-count.ensures)
    (simp (eq-eqb _ tiers_kind c.if-record_kind-ne-TIERS_KIND.false, le-ltb _ 1 c.if-count-lt1.false, lt-ltb _ _ c.if-count-gt-MOST_TIERS.true))

pub returns : goal.returns
unfolding unsound_tiers
returns c =
    rw (← c.record_kind.ensures, ← c.tier_count-count.ensures, ← c.some_unfit.ensures)
    (simp (eq-eqb _ tiers_kind c.if-record_kind-ne-TIERS_KIND.false, le-ltb _ 1 c.if-count-lt1.false, le-ltb _ _ c.if-count-gt-MOST_TIERS.false))
