-- `over_limit` meets its contract.
-- Assumes nothing.
use borrow.Author.Tests.{eq-eqb, ne_eqb}
use Rattle.record_kinds.specs.Kinds.{amendment_kind}
use Rattle.record_limits.specs.Bodies.{over_limit}
use Rattle.record_limits.proofs.over_limit.Goals as goal

-- the kind gives a cell: the record's value is compared with the limit of the record
pub returns-then-gives_cell : goal.returns-then-gives_cell
unfolding over_limit
returns-then-gives_cell c =
    rw (
      ← c.record_kind-kind.ensures,
      ← c.gives_cell.ensures,
      ← c.value_limit.ensures,
      ← c.record_value.ensures,
    )
    (simp c.if-gives_cell.true)

pub returns-then-kind-eq-AMENDMENT_KIND : goal.returns-then-kind-eq-AMENDMENT_KIND
unfolding over_limit
returns-then-kind-eq-AMENDMENT_KIND c =
    rw (← c.record_kind-kind.ensures, ← c.gives_cell.ensures, ← c.unfit_amendment.ensures)
    (simp (c.if-gives_cell.false, eq-eqb _ amendment_kind c.if-kind-eq-AMENDMENT_KIND.true))

-- the kind gives no cell and is no amendment's: the numbers of its row in the table of sheets are compared with the row's limit
pub returns : goal.returns
unfolding over_limit
returns c =
    rw (
      ← c.record_kind-kind.ensures,
      ← c.gives_cell.ensures,
      ← c.sheet_kind-sheet.ensures,
      ← c.number_over.ensures,
    )
    (simp (c.if-gives_cell.false, ne_eqb _ amendment_kind c.if-kind-eq-AMENDMENT_KIND.false))
