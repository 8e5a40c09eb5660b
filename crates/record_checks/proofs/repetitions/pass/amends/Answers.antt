-- `amends` meets its contract.
-- Assumes nothing.
use Rattle.record_kinds.specs.Items.{same_item}
use Rattle.record_checks.proofs.repetitions.pass.amends.Goals as goal

pub returns-in-Some-Cell : goal.returns-in-Some-Cell
unfolding same_item
returns-in-Some-Cell c = rw (← c.record_item.ensures, c.in-Some-Cell.is, c.in-Some-Cell.field-0-is)

pub returns-in-Some-Sheet : goal.returns-in-Some-Sheet
unfolding same_item
returns-in-Some-Sheet c = rw (← c.record_item.ensures, c.in-Some-Sheet.is, c.in-Some-Sheet.field-0-is)

pub returns-in-Some-Amendment : goal.returns-in-Some-Amendment
unfolding same_item
returns-in-Some-Amendment c = rw (← c.record_item.ensures, c.in-Some-Amendment.is, c.in-Some-Amendment.field-0-is)

pub returns-in-None : goal.returns-in-None
unfolding same_item
returns-in-None c = rw (← c.record_item.ensures, c.in-None.is)
