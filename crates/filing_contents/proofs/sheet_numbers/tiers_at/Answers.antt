-- `tiers_at` meets its contract.
-- Assumes nothing.
use Rattle.filing_contents.specs.Sheets.{tiers_at}
use Rattle.filing_contents.proofs.sheet_numbers.tiers_at.Goals as goal

pub returns : goal.returns
unfolding tiers_at
returns c = rw (c.tier_numbers-2.ensures, c.tier_numbers.ensures, c.tier_count-count.ensures)
