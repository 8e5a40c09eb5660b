-- `value_limit` meets its contract.
-- Assumes nothing.
use borrow.Author.Tests.{eq-eqb, ne_eqb}
use Rattle.record_kinds.specs.Kinds.{fine_coupon_kind}
use Rattle.record_limits.specs.Bodies.{value_limit}
use Rattle.record_limits.proofs.value_limit.Goals as goal

pub returns-then-record_kind-eq-FINE_COUPON_KIND : goal.returns-then-record_kind-eq-FINE_COUPON_KIND
unfolding value_limit
returns-then-record_kind-eq-FINE_COUPON_KIND c = rw (← c.record_kind.ensures) (simp (eq-eqb _ fine_coupon_kind c.if-record_kind-eq-FINE_COUPON_KIND.true))

-- the kind is not 6, so that the limit is that of the class of the record's cell
pub returns : goal.returns
unfolding value_limit
returns c =
    rw (
      ← c.record_kind.ensures,
      ← c.record_cell.ensures,
      ← c.cell_class.ensures,
      ← c.class_limit.ensures,
    )
    (simp (ne_eqb _ fine_coupon_kind c.if-record_kind-eq-FINE_COUPON_KIND.false))
