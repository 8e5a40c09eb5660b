-- `record_class` meets its contract: each test of the code is the definition's.
-- Assumes nothing.
use borrow.Author.Tests.{eq-eqb, ne_eqb}
use Rattle.form.specs.Limits.{coupon_class}
use Rattle.record_kinds.specs.Kinds.{fine_coupon_kind}
use Rattle.record_kinds.specs.Items.{record_class}
use Rattle.record_kinds.proofs.items.record_class.Goals as goal

pub returns-then-record_kind-ne-FINE_COUPON_KIND : goal.returns-then-record_kind-ne-FINE_COUPON_KIND
unfolding record_class
returns-then-record_kind-ne-FINE_COUPON_KIND c =
    rw (← c.record_kind.ensures, ← c.record_cell.ensures, ← c.cell_class-class.ensures)
    (simp (ne_eqb _ fine_coupon_kind c.if-record_kind-ne-FINE_COUPON_KIND.true))

pub returns-then-class-eq-COUPON_CLASS : goal.returns-then-class-eq-COUPON_CLASS
unfolding record_class
returns-then-class-eq-COUPON_CLASS c =
    rw (← c.record_kind.ensures, ← c.record_cell.ensures, ← c.cell_class-class.ensures)
    (simp (eq-eqb _ fine_coupon_kind c.if-record_kind-ne-FINE_COUPON_KIND.false, eq-eqb _ coupon_class c.if-class-eq-COUPON_CLASS.true) c.if-class-eq-COUPON_CLASS.true)

pub returns-else-class-eq-COUPON_CLASS : goal.returns-else-class-eq-COUPON_CLASS
unfolding record_class
returns-else-class-eq-COUPON_CLASS c =
    rw (← c.record_kind.ensures, ← c.record_cell.ensures, ← c.cell_class-class.ensures)
    (simp (eq-eqb _ fine_coupon_kind c.if-record_kind-ne-FINE_COUPON_KIND.false, ne_eqb _ coupon_class c.if-class-eq-COUPON_CLASS.false))
