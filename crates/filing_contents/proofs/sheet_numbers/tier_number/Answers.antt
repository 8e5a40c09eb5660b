-- `tier_number` meets its contract.
-- Assumes nothing.
use borrow.Author.Tests.{lt-ltb, le-ltb}
use mathlib.Core.Path.{sym, ◌∙◌}
use Rattle.filing_contents.specs.Sheets.{tier_number}
use Rattle.filing_contents.proofs.sheet_numbers.tier_number.Goals as goal

pub returns-then-i-count : goal.returns-then-i-count
unfolding tier_number
returns-then-i-count c = c.sheet_number.ensures ∙ sym (simp (lt-ltb _ _ c.if-i-count.true))

pub returns-else-i-count : goal.returns-else-i-count
unfolding tier_number
returns-else-i-count c = simp (le-ltb _ _ c.if-i-count.false)
