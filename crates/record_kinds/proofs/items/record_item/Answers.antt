-- `record_item` meets its contract: each test of the code is the definition's.
-- Assumes nothing.
use borrow.Author.Tests.{eq-eqb, ne_eqb}
use Rattle.record_kinds.specs.Kinds.{amendment_kind}
use Rattle.record_kinds.specs.Items.{record_item}
use Rattle.record_kinds.proofs.items.record_item.Goals as goal

pub returns-then-record_class-eq0 : goal.returns-then-record_class-eq0
unfolding record_item
returns-then-record_class-eq0 c =
    rw (← c.record_kind-kind.ensures, ← c.gives_cell.ensures, ← c.record_class.ensures)
    (simp (c.if-gives_cell.true, eq-eqb _ 0 c.if-record_class-eq0.true))

-- the kind gives a cell, and the cell's class is not 0: the item is that cell
pub returns-then-gives_cell : goal.returns-then-gives_cell
unfolding record_item
returns-then-gives_cell c =
    rw (
      ← c.record_kind-kind.ensures,
      ← c.gives_cell.ensures,
      ← c.record_class.ensures,
      ← c.record_cell.ensures,
    )
    (simp (c.if-gives_cell.true, ne_eqb _ 0 c.if-record_class-eq0.false))

pub returns-then-record_class-eq0-2 : goal.returns-then-record_class-eq0-2
unfolding record_item
returns-then-record_class-eq0-2 c =
    rw (← c.record_kind-kind.ensures, ← c.gives_cell.ensures, ← c.record_class-then-kind-eq-AMENDMENT_KIND.ensures)
    (simp (c.if-gives_cell.false, eq-eqb _ amendment_kind c.if-kind-eq-AMENDMENT_KIND.true, eq-eqb _ 0 c.if-record_class-eq0-2.true))

-- the kind gives no cell and is an amendment's, and the cell's class is not 0: the item is that amendment of the cell
pub returns-then-kind-eq-AMENDMENT_KIND : goal.returns-then-kind-eq-AMENDMENT_KIND
unfolding record_item
returns-then-kind-eq-AMENDMENT_KIND c =
    rw (
      ← c.record_kind-kind.ensures,
      ← c.gives_cell.ensures,
      ← c.record_class-then-kind-eq-AMENDMENT_KIND.ensures,
      ← c.record_cell-then-kind-eq-AMENDMENT_KIND.ensures,
      ← c.amendment_number.ensures,
    )
    (simp (c.if-gives_cell.false, eq-eqb _ amendment_kind c.if-kind-eq-AMENDMENT_KIND.true, ne_eqb _ 0 c.if-record_class-eq0-2.false))

pub returns-then-due_length-eq0 : goal.returns-then-due_length-eq0
unfolding record_item
returns-then-due_length-eq0 c =
    rw (← c.record_kind-kind.ensures, ← c.gives_cell.ensures, ← c.due_length.ensures)
    (simp (c.if-gives_cell.false, ne_eqb _ amendment_kind c.if-kind-eq-AMENDMENT_KIND.false, eq-eqb _ 0 c.if-due_length-eq0.true))

pub returns : goal.returns
unfolding record_item
returns c =
    rw (← c.record_kind-kind.ensures, ← c.gives_cell.ensures, ← c.due_length.ensures)
    (simp (c.if-gives_cell.false, ne_eqb _ amendment_kind c.if-kind-eq-AMENDMENT_KIND.false, ne_eqb _ 0 c.if-due_length-eq0.false))
