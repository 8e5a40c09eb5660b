-- What the numbers of a sheet say, by its offset: the tiers of a record (02:CR 1). Definitions only.
use Rattle.std.specs.Prelude.{ℕ, ◌+◌, ◌*◌, cond, List, ltb}
use Rattle.lists.specs.Tables.{table}
use Rattle.form.specs.Limits.{tier_limit}
use Rattle.record_fields.specs.Records.{sheet_number, tier_count}
use Rattle.filing_contents.specs.declared.FiledTiers.{FiledTiers}

-- of a record of kind 4 with `count` tiers (02:CR 1): every second number from `first` on, one for the i-th tier, from 0; 0 past the last tier
unfoldable pub tier_number : List ℕ → ℕ → ℕ → ℕ → ℕ → ℕ
tier_number s at count first i = cond (ltb i count) (sheet_number s at (first + 2 * i)) 0

-- the tiers of a record of kind 4 (02:CR 1), lowest edge first: edges in hundredths, annual withdrawals in thousandths. At the input's length, where no
-- record stands, there are none
unfoldable pub tiers_at : List ℕ → ℕ → FiledTiers
tiers_at s at =
    record {
      count = tier_count s at;
      edges = table tier_limit (tier_number s at (tier_count s at) 2);
      withdrawals = table tier_limit (tier_number s at (tier_count s at) 3);
    }
