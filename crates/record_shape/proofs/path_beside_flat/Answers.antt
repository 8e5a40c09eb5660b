-- `path_beside_flat` meets its contract: what is noted of the other kind tells whether it stands in an earlier record.
-- Assumes nothing.
use borrow.Author.Tests.{eq-eqb, ne_eqb}
use lib.Dec.{lit<}
use Rattle.record_kinds.specs.Kinds.{flat_rates_kind, rate_path_kind}
use Rattle.record_shape.specs.Faults as faults
use Rattle.record_shape.proofs.RepetitionLaws.{sheet-before}
use Rattle.record_shape.proofs.path_beside_flat.Goals as goal

pub returns-then-kind-eq-FLAT_RATES_KIND : goal.returns-then-kind-eq-FLAT_RATES_KIND
unfolding faults.path_beside_flat
returns-then-kind-eq-FLAT_RATES_KIND c =
    rw (← c.record_kind-kind.ensures, c.requires.1)
    (simp (eq-eqb _ flat_rates_kind c.if-kind-eq-FLAT_RATES_KIND.true) (sheet-before _ _ rate_path_kind c.requires.0 (lit< tt)))

pub returns-then-kind-eq-RATE_PATH_KIND : goal.returns-then-kind-eq-RATE_PATH_KIND
unfolding faults.path_beside_flat
returns-then-kind-eq-RATE_PATH_KIND c =
    rw (← c.record_kind-kind.ensures, c.requires.1)
    (simp (ne_eqb _ flat_rates_kind c.if-kind-eq-FLAT_RATES_KIND.false, eq-eqb _ rate_path_kind c.if-kind-eq-RATE_PATH_KIND.true)
    (sheet-before _ _ flat_rates_kind c.requires.0 (lit< tt)))

pub returns : goal.returns
unfolding faults.path_beside_flat
returns c =
    rw (← c.record_kind-kind.ensures) (simp (ne_eqb _ flat_rates_kind c.if-kind-eq-FLAT_RATES_KIND.false, ne_eqb _ rate_path_kind c.if-kind-eq-RATE_PATH_KIND.false))
