-- `due_length` meets its contract: each test of the code is the definition's.
-- Assumes nothing.
use borrow.Author.Tests.{eq-eqb, ne_eqb}
use Rattle.record_kinds.specs.Kinds.{sheet_length, amendment_kind, tiers_kind, due_length}
use Rattle.record_kinds.proofs.due_length.Goals as goal

pub returns-then-gives_cell : goal.returns-then-gives_cell
unfolding due_length
returns-then-gives_cell c =
    rw (← c.record_kind-kind.ensures, ← c.gives_cell.ensures) (simp c.if-gives_cell.true)

pub returns-then-kind-eq-AMENDMENT_KIND : goal.returns-then-kind-eq-AMENDMENT_KIND
unfolding due_length
returns-then-kind-eq-AMENDMENT_KIND c =
    rw (← c.record_kind-kind.ensures, ← c.gives_cell.ensures)
    (simp (c.if-gives_cell.false, eq-eqb _ amendment_kind c.if-kind-eq-AMENDMENT_KIND.true))

-- the kind gives no cell and is no amendment's, and is that of tiers: the length by their count
pub returns-then-kind-eq-TIERS_KIND : goal.returns-then-kind-eq-TIERS_KIND
unfolding due_length
returns-then-kind-eq-TIERS_KIND c =
    rw (← c.record_kind-kind.ensures, ← c.gives_cell.ensures, ← c.tier_count.ensures)
    (simp (
      c.if-gives_cell.false,
      ne_eqb _ amendment_kind c.if-kind-eq-AMENDMENT_KIND.false,
      eq-eqb _ tiers_kind c.if-kind-eq-TIERS_KIND.true,
    ))

-- the kind is none of the three before and has no numbers in the table of sheets: it is unknown, and 0 is due
pub returns-then-sheet-eq0 : goal.returns-then-sheet-eq0
unfolding sheet_length due_length
returns-then-sheet-eq0 c =
    rw (← c.record_kind-kind.ensures, ← c.gives_cell.ensures, ← c.sheet_kind-sheet.ensures)
    (simp (
      c.if-gives_cell.false,
      ne_eqb _ amendment_kind c.if-kind-eq-AMENDMENT_KIND.false,
      ne_eqb _ tiers_kind c.if-kind-eq-TIERS_KIND.false,
      eq-eqb _ 0 c.if-sheet-eq0.true,
    ))

-- the kind is none of the three before and has numbers in the table of sheets: the length by how many
pub returns : goal.returns
unfolding sheet_length due_length
returns c =
    rw (← c.record_kind-kind.ensures, ← c.gives_cell.ensures, ← c.sheet_kind-sheet.ensures)
    (simp (
      c.if-gives_cell.false,
      ne_eqb _ amendment_kind c.if-kind-eq-AMENDMENT_KIND.false,
      ne_eqb _ tiers_kind c.if-kind-eq-TIERS_KIND.false,
      ne_eqb _ 0 c.if-sheet-eq0.false,
    ))
