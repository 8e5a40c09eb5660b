-- `block_repetition` meets its contract.
-- Assumes nothing.
use mathlib.Core.Path.{sym}
use Rattle.record_checks.proofs.repetitions.block_repetition.Goals as goal

pub returns-else-falling : goal.returns-else-falling
returns-else-falling c = sym (c.requires.end_value c.if-falling.false)
