-- The limits of the tiers that an accepted filing carries, and that their edges rise (02:CR 1). Definitions only.
use Rattle.std.specs.Prelude.{ℕ, suc, ◌≤◌, ◌<◌, get_or}
use Rattle.form.specs.Limits.{tier_limit, withdrawal_limit}
use Rattle.filing_contents.specs.declared.FiledTiers.{FiledTiers}

pub record FiledLimits (t : FiledTiers) : Type 0 where
  pub count-le : t.count ≤ tier_limit
  pub edges-rise : (i : ℕ) → suc i < t.count → get_or t.edges i 0 < get_or t.edges (suc i) 0
  pub withdrawal-le : (i : ℕ) → get_or t.withdrawals i 0 ≤ withdrawal_limit
