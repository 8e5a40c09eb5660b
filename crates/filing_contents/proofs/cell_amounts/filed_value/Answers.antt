-- `filed_value` meets its contract.
-- Assumes nothing.
use borrow.Author.Tests.{eq-eqb, ne_eqb}
use Rattle.record_kinds.specs.Kinds.{amendment_kind}
use Rattle.filing_contents.specs.Amounts.{filed_value}
use Rattle.filing_contents.proofs.cell_amounts.filed_value.Goals as goal

pub returns-then-record_kind-ne-AMENDMENT_KIND : goal.returns-then-record_kind-ne-AMENDMENT_KIND
unfolding filed_value
returns-then-record_kind-ne-AMENDMENT_KIND c =
    rw (← c.record_kind.ensures, ← c.record_value.ensures) (simp (ne_eqb _ amendment_kind c.if-record_kind-ne-AMENDMENT_KIND.true))

pub returns-then-amendment_state-ne0 : goal.returns-then-amendment_state-ne0
unfolding filed_value
returns-then-amendment_state-ne0 c =
    rw (← c.record_kind.ensures, ← c.amendment_state.ensures)
    (simp (eq-eqb _ amendment_kind c.if-record_kind-ne-AMENDMENT_KIND.false, ne_eqb _ 0 c.if-amendment_state-ne0.true))

pub returns : goal.returns
unfolding filed_value
returns c =
    rw (← c.record_kind.ensures, ← c.amendment_state.ensures, ← c.amendment_value.ensures)
    (simp (eq-eqb _ amendment_kind c.if-record_kind-ne-AMENDMENT_KIND.false, eq-eqb _ 0 c.if-amendment_state-ne0.false))
