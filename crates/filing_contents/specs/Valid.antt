-- What holds of the contents of every accepted filing: its cells' limits and conditions, and the limits of its sheets and tiers (01:24; 02:CR 1, CR 8).
-- Definitions only.
use Rattle.std.specs.Prelude.{ℕ, suc, ◌≤◌, ◌<◌, get_or}
use Rattle.form.specs.Limits.{rate_limit, tier_limit, withdrawal_limit}
use Rattle.filing_cells.specs.ValidCells.{ValidCells}
use Rattle.filing_cells.specs.ValidBorrowings.{ValidBorrowings}
use Rattle.filing_contents.specs.Contents.{Contents, cd_yield, retail_rate, libor_yield}

-- j: a column; t: a month; i: a tier, from 0
pub record Valid (k : Contents) : Type 0 where
  pub of-cells : ValidCells k.cells
  pub of-borrowings : ValidBorrowings k.cells
  pub yield-limit : (t : ℕ) → cd_yield k t ≤ rate_limit
  pub rate-limit : (j t : ℕ) → retail_rate k j t ≤ rate_limit
  pub libor-limit : (t : ℕ) → libor_yield k t ≤ rate_limit
  pub tier-count-limit : k.tiers.count ≤ tier_limit
  pub edges-rise : (i : ℕ) → suc i < k.tiers.count → get_or k.tiers.edges i 0 < get_or k.tiers.edges (suc i) 0
  pub withdrawal-limit : (i : ℕ) → get_or k.tiers.withdrawals i 0 ≤ withdrawal_limit
