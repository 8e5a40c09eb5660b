-- `rank` meets its contract.
-- Assumes nothing.
use Prim.Native.Nat.{ℕ, ◌+◌}
use mathlib.Core.Path.{ap}
use borrow.Author.Tests.{eq-eqb, ne_eqb}
use Rattle.record_offsets.specs.Counting.{item_rank}
use Rattle.record_kinds.proofs.ItemLaws.{item-past}
use Rattle.record_offsets.proofs.rank.Goals as goal

pub returns-then-s-at : goal.returns-then-s-at
unfolding item_rank
returns-then-s-at c = rw (item-past _ _ c.if-s-at.true)

pub returns-then-n-cell : goal.returns-then-n-cell
unfolding item_rank
returns-then-n-cell c =
    rw (← c.record_item.ensures, c.in-Some-Cell.is, c.in-Some-Cell.field-0-is) (simp (eq-eqb _ _ c.if-n-cell.true))

pub returns-else-n-cell : goal.returns-else-n-cell
unfolding item_rank
returns-else-n-cell c =
    rw (← c.record_item.ensures, c.in-Some-Cell.is, c.in-Some-Cell.field-0-is) (simp (ne_eqb _ _ c.if-n-cell.false))

pub returns-then-n-cell-2 : goal.returns-then-n-cell-2
unfolding item_rank
returns-then-n-cell-2 c =
    rw (← c.record_item.ensures, c.in-Some-Amendment.is, c.in-Some-Amendment.field-0-is) (simp (eq-eqb _ _ c.if-n-cell-2.true) (ap (λ (n : ℕ). n + 1) c.from.ensures))

pub returns-else-n-cell-2 : goal.returns-else-n-cell-2
unfolding item_rank
returns-else-n-cell-2 c =
    rw (← c.record_item.ensures, c.in-Some-Amendment.is, c.in-Some-Amendment.field-0-is) (simp (ne_eqb _ _ c.if-n-cell-2.false))

pub returns-in-Some-Sheet : goal.returns-in-Some-Sheet
unfolding item_rank
returns-in-Some-Sheet c = rw (← c.record_item.ensures, c.in-Some-Sheet.is, c.in-Some-Sheet.field-0-is)

pub returns-in-None : goal.returns-in-None
unfolding item_rank
returns-in-None c = rw (← c.record_item.ensures, c.in-None.is)
