-- `entry_at` meets its contract: past the end the list reads 0.
-- Assumes nothing.
use mathlib.Core.Path.{sym}
use lib.ListN.{get_or-eq_default}
use Rattle.form.proofs.tables.entry_at.Goals as goal

pub returns-else-i-table : goal.returns-else-i-table
returns-else-i-table c = sym (get_or-eq_default c.args.table.now 0 c.if-i-table.false)
